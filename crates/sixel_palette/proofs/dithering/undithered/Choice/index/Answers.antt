use Rattle.std.proofs.{Common.arith, lemmas.Bool.Decides.nat_tests}
use Rattle.sixel_palette.specs.inside.Undithered.{choice_value}
use Rattle.sixel_palette.proofs.mapped_images.Undithered.{cheapest-free}
use Rattle.sixel_palette.proofs.dithering.undithered.Choice.index.Goals as goal

pub returns-then-lacking-eq0-clause-opaque : goal.returns-then-lacking-eq0-clause-opaque
returns-then-lacking-eq0-clause-opaque c = λ light.
    let free =
    cheapest-free (choice_value c.args.self.now) c.args.self.now.column c.args.self.now.row
    c.requires.nearest c.requires.entries in
    grind (arith, nat_tests)
