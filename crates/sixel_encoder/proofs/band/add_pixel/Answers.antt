use Rattle.std.proofs.{Common.arith, lemmas.Bool.Decides.nat_tests}
use Rattle.sixel_encoder.proofs.band_rows.Cells.{AreMarks-dot, cell-dot, place_inside}
use Rattle.sixel_encoder.proofs.band.add_pixel.Goals as goal

pub returns-clause-cells : goal.returns-clause-cells
returns-clause-cells c = λ e x le lx. grind (arith, nat_tests, place_inside, cell-dot)

pub returns-clause-marks : goal.returns-clause-marks
returns-clause-marks c = grind (arith, nat_tests, AreMarks-dot, place_inside)
