use Rattle.std.proofs.{Common.arith, lemmas.Bool.Decides.nat_tests}
use Rattle.sixel_encoder.proofs.JoinedLists.{joined-more}
use Rattle.sixel.proofs.netpbm.header.Header.pixels.Goals as goal

pub pixels-preserved : goal.pixels-preserved
pixels-preserved c = grind (arith, nat_tests, joined-more)
