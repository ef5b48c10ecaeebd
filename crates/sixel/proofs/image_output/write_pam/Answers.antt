use Rattle.std.proofs.{Common.{append-nil, arith}, lemmas.Bool.Decides.nat_tests}
use Rattle.sixel.proofs.Outputs.{Serves-whole}
use Rattle.sixel.proofs.image_output.write_pam.Goals as goal

pub returns : goal.returns
returns g c = grind (arith, nat_tests, Serves-whole, append-nil)
