-- The parameters of one command while its text is read: how many fields there are so far, and the
-- values of the first five. The fields of a text are those of specs/Fields.antt, and no command of
-- the format uses more than five.
use Rattle.std.specs.Prelude.{◌≡◌, ℕ, ◌<◌, ◌≤◌, ◌⊎◌, min, List, [], ◌∷◌, length, slice_index, take}
use Rattle.sixel_base.specs.Fields.{fields, field}

-- the values of the first five fields, and how many fields there are, where six stands for any more
-- than five
pub record Parameters : Type 0 where
  pub values : List ℕ
  pub count : ℕ

-- the byte is a decimal digit
abbrev pub IsDigit : ℕ → Type 0
IsDigit byte = (48 ≤ byte) × (byte ≤ 57)

-- the byte is a decimal digit or a semicolon
abbrev pub IsParameterByte : ℕ → Type 0
IsParameterByte byte = IsDigit byte ⊎ (byte ≡ 59)

-- the parameters are those of the text
pub record Keeps (parameters : Parameters) (text : List ℕ) : Type 0 where
  pub counted : parameters.count ≡ min 6 (length (fields text))
  pub valued : (k : ℕ) → k < 5 → slice_index parameters.values k ≡ field text k

-- the first `len` bytes are digits and were read, and this is their value
abbrev pub AreRead : List ℕ → ℕ → ℕ → Type 0
AreRead bytes value len =
    (len ≤ length bytes)
    × ((k : ℕ) → k < len → IsDigit (slice_index bytes k))
    × Keeps (record { values = value ∷ 0 ∷ 0 ∷ 0 ∷ 0 ∷ []; count = min len 1 }) (take len bytes)
