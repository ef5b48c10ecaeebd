use Rattle.std.proofs.{Common.arith, KnownBytes.Appends-nil, lemmas.Bool.Decides.nat_tests}
use Rattle.sixel.proofs.Outputs.{wanting}
use Rattle.sixel.proofs.engine.serve.Goals as goal

pub returns-in_err-bytes-clause-served : goal.returns-in_err-bytes-clause-served
returns-in_err-bytes-clause-served g c = grind (arith, nat_tests, wanting, Appends-nil)
