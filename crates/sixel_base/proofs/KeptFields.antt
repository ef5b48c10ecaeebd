-- What the parameters of a text become as the text goes on by a byte.
use Rattle.std.proofs.Common.{◌≡◌, ◌≢◌, ℕ, ◌+◌, ◌-◌, ◌<◌, ◌≤◌, min, max, List, [], ◌∷◌, ◌++◌}
use Rattle.std.proofs.{Common.{length, get_or, set, arith}, lemmas.Bool.Decides.nat_tests}
use Rattle.std.proofs.lemmas.List.{get_or-set_same, get_or-set_other}
use Rattle.sixel_base.specs.{Fields.{fields, field}, inside.Parameters.{Parameters, Keeps}}
use Rattle.sixel_base.proofs.Fields.{raised, length-on_last, get_or-on_last_same}
use Rattle.sixel_base.proofs.Fields.{get_or-on_last_other, fields-push_digit}
use Rattle.sixel_base.proofs.Fields.{length-fields-push_separator, field-push_separator}

-- a semicolon counts a field more, and changes no value
pub Keeps-push_separator : (old new : Parameters) → new.values ≡ old.values
    → new.count ≡ min (max old.count 1 + 1) 6 → (text : List ℕ) → Keeps old text
    → Keeps new (text ++ 59 ∷ [])
Keeps-push_separator old new values count text keeps =
    grind (arith, nat_tests, length-fields-push_separator, field-push_separator)

-- a text that goes on by a digit
module _ (text : List ℕ) (byte : ℕ) (low : 48 ≤ byte) (high : byte ≤ 57) where
  -- a digit begins a field only where there is none
  count-push_digit : length (fields (text ++ byte ∷ [])) ≡ max 1 (length (fields text))
  count-push_digit =
      rw (fields-push_digit text byte low high) (length-on_last (raised byte) (fields text))

  -- the last field goes on by the digit
  field-push_digit_same : (k : ℕ) → k + 1 ≡ max 1 (length (fields text))
      → field (text ++ byte ∷ []) k ≡ raised byte (field text k)
  field-push_digit_same k at =
      rw (fields-push_digit text byte low high)
      (get_or-on_last_same (raised byte) (fields text) k at)

  -- the other fields stay
  field-push_digit_other : (k : ℕ) → k + 1 ≢ max 1 (length (fields text))
      → field (text ++ byte ∷ []) k ≡ field text k
  field-push_digit_other k other =
      rw (fields-push_digit text byte low high)
      (get_or-on_last_other (raised byte) (fields text) k other)

  -- a digit of a field that is kept
  pub Keeps-push_digit_kept : (old new : Parameters) (last value : ℕ) → last ≡ old.count - 1
      → last < 5 → length old.values ≡ 5 → new.values ≡ set old.values last value
      → value ≡ raised byte (get_or old.values last 0) → new.count ≡ max old.count 1
      → Keeps old text → Keeps new (text ++ byte ∷ [])
  Keeps-push_digit_kept old new last value at below size values raises count keeps =
      let counted = count-push_digit in
      grind (
        arith,
        nat_tests,
        field-push_digit_same,
        field-push_digit_other,
        get_or-set_same,
        get_or-set_other,
      )

  -- a digit of a field that is not kept
  pub Keeps-push_digit_dropped : (old new : Parameters) → 5 ≤ old.count - 1
      → new.values ≡ old.values → new.count ≡ max old.count 1 → Keeps old text
      → Keeps new (text ++ byte ∷ [])
  Keeps-push_digit_dropped old new past values count keeps =
      let counted = count-push_digit in grind (arith, nat_tests, field-push_digit_other)
