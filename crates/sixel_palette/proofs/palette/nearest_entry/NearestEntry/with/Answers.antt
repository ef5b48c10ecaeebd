use Rattle.std.proofs.{Common.{◌≤◌, arith}, lemmas.Bool.Decides.nat_tests}
use Rattle.sixel_palette.specs.Palette.{distance}
use Rattle.sixel_palette.proofs.nearest_entries.NearestEntry.{near_taken, near_kept}
use Rattle.sixel_palette.proofs.palette.nearest_entry.NearestEntry.with.Goals as goal

pub returns-then-squared-self : goal.returns-then-squared-self
returns-then-squared-self c entries p color at same h =
    grind (arith, nat_tests, near_taken, c.if-squared-self.true)

pub returns-else-squared-self : goal.returns-else-squared-self
returns-else-squared-self c entries p color at same h =
    let more : c.args.self.squared ≤ distance p color = omega arith in
    near_kept entries p color c.args.self more h
