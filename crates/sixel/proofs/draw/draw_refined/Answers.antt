use Rattle.std.proofs.{Common.arith, lemmas.Bool.Decides.nat_tests}
use Rattle.sixel.proofs.Drawings.{no_call_fault}
use Rattle.sixel.proofs.draw.draw_refined.Goals as goal

pub returns : goal.returns
returns c = grind (arith, nat_tests, no_call_fault)
