use Rattle.std.proofs.Common.{arith, decimal, string_bytes, append_assoc}
use Rattle.std.proofs.lemmas.{Bool.Decides.nat_tests, Fmt.{decimal_digit, decimal_step}}
use Rattle.sixel_encoder.proofs.decimal.+push_number.Goals as goal

pub returns : goal.returns
returns t c =
    grind (arith, nat_tests, decimal_step, decimal_digit, append_assoc, string_bytes, decimal)
