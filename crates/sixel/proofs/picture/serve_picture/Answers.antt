use Rattle.sixel.proofs.Outputs.{served_all}
use Rattle.std.proofs.{Common.arith, lemmas.Bool.Decides.nat_tests}
use Rattle.sixel.proofs.picture.serve_picture.Goals as goal

pub returns-clause-served : goal.returns-clause-served
returns-clause-served g c = grind (arith, nat_tests, served_all)
