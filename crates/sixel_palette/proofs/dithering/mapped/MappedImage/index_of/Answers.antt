use Rattle.std.proofs.{Common.arith, lemmas.Bool.Decides.nat_tests}
use Rattle.sixel_palette.proofs.nearest_entries.Nearest.{nearest-le}
use Rattle.sixel_palette.proofs.dithering.mapped.MappedImage.index_of.Goals as goal

pub returns-then-self-eq0-clause-index : goal.returns-then-self-eq0-clause-index
returns-then-self-eq0-clause-index c =
    let near = c.in_ok-near.ensures.nearest in
    let exact = c.if-self-eq0.true in
    grind (arith, nat_tests, c.requires.some, c.requires.search, nearest-le)
