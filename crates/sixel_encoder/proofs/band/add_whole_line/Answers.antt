use Rattle.std.proofs.{Common.arith, lemmas.Bool.Decides.nat_tests}
use Rattle.sixel_encoder.proofs.band_rows.Lines.{between-none}
use Rattle.sixel_encoder.proofs.band.add_whole_line.Goals as goal

pub loop-sixteen-init : goal.loop-sixteen-init
loop-sixteen-init c = grind (arith, nat_tests, between-none, c.requires.marks)

pub loop-column-init : goal.loop-column-init
loop-column-init c = grind (arith, nat_tests, between-none, c.loop-sixteen.invariant.marks)
