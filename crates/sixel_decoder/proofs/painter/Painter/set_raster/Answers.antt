use Rattle.std.proofs.{Common.arith, lemmas.Bool.Decides.nat_tests}
use Rattle.sixel_decoder.proofs.painter.Painter.set_raster.Goals as goal

pub returns-in-Ok-clause-draws : goal.returns-in-Ok-clause-draws
returns-in-Ok-clause-draws g c = grind (arith, nat_tests)
