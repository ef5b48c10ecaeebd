use Rattle.std.proofs.Common.{◌≡◌, ◌+◌, ◌-◌, ◌*◌, min, [], ◌∷◌, take, get_or, refl, sym, subst}
use Rattle.std.proofs.{Common.arith, lemmas.Bool.Decides.nat_tests, lemmas.List.take_more}
use Rattle.sixel_base.specs.{Limits.parameter_limit, inside.Parameters.{Parameters, AreRead}}
use Rattle.sixel_base.specs.inside.Parameters.{IsDigit, Keeps}
use Rattle.sixel_base.proofs.KeptFields.{Keeps-push_digit_kept}
use Rattle.sixel_base.proofs.parameters.with_digit_at.Goals as goal

pub returns-then-digit-lt10-clause-read : goal.returns-then-digit-lt10-clause-read
returns-then-digit-lt10-clause-read c = λ read.
    let bytes = c.args.bytes.now in
    let at = c.args.at in
    let value = c.args.value in
    let byte = get_or bytes at 0 in
    let inside = c.requires.inside in
    let before : AreRead bytes value at = rw c.if-len-at.true at read in
    let is : IsDigit byte = grind (arith, nat_tests) in
    let next = 10 * value + c.from-digit.result in
    let old : Parameters = record { values = value ∷ 0 ∷ 0 ∷ 0 ∷ 0 ∷ []; count = min at 1 } in
    let new : Parameters = record { values = next ∷ 0 ∷ 0 ∷ 0 ∷ 0 ∷ []; count = min (at + 1) 1 } in
    let worth : next ≡ min (value * 10 + (byte - 48)) parameter_limit =
    grind (arith, nat_tests) in (
      omega (arith, inside),
      λ k lt. grind (arith, nat_tests, before.1 k, is),
      subst (Keeps new) (sym (take_more bytes at 0 inside))
          (Keeps-push_digit_kept (take at bytes) byte is.0 is.1 old new 0 next (omega arith)
          (omega arith) refl refl
          worth (omega arith) before.2),
    )
