use Rattle.std.proofs.lemmas.{Bool.Decides.nat_tests, List.take_more}
use Rattle.std.proofs.Common.{◌+◌, ◌*◌, min, [], ◌∷◌, take, get_or, refl, sym, subst, arith}
use Rattle.sixel_base.specs.inside.Parameters.{Parameters, IsDigit, Keeps}
use Rattle.sixel_base.proofs.KeptFields.{Keeps-push_digit_kept}
use Rattle.sixel_base.proofs.parameters.Digits.at_front.Goals as goal

pub digits-preserved : goal.digits-preserved
digits-preserved c =
    let bytes = c.args.bytes.now in
    let len = c.digits.len in
    let value = c.digits.value in
    let before = c.digits.invariant.0 in
    let byte = get_or bytes len 0 in
    let is : IsDigit byte =
    grind (arith, c.if-is_ascii_digit.true, c.is_ascii_digit.ensures.value) in
    let next = 10 * value + c.from.result in
    let old : Parameters = record { values = value ∷ 0 ∷ 0 ∷ 0 ∷ 0 ∷ []; count = min len 1 } in
    let new : Parameters = record {
      values = next ∷ 0 ∷ 0 ∷ 0 ∷ 0 ∷ [];
      count = min (len + 1) 1;
    } in (
      (
        omega (arith, c.digits-test.true),
        λ k lt. grind (arith, nat_tests, before.1 k, is),
        subst (Keeps new) (sym (take_more bytes len 0 c.digits-test.true))
            (Keeps-push_digit_kept (take len bytes) byte is.0 is.1 old new 0 next (omega arith)
            (omega arith) refl refl
            (omega (arith, c.if-value-lt-ENOUGH.true, c.from.ensures, is.0, is.1)) (omega arith)
            before.2),
      ),
      omega (arith, c.if-value-lt-ENOUGH.true, c.from.ensures, is.0, is.1),
    )
