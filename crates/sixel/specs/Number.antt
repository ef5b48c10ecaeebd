-- How a number is spelled: in decimal digits alone.
use Rattle.std.specs.Prelude.{ℕ, ◌+◌, ◌-◌, ◌*◌, ◌^◌, ◌&&◌, nat_lt, nat_le, if◌then◌else◌, List}
use Rattle.std.specs.Prelude.{[], ◌∷◌, Option, None, Some, option_and_then}

-- a number with one more decimal digit, below 2 ^ 64
abbrev pub with_digit : ℕ → ℕ → Option ℕ
with_digit number byte =
    if nat_le 48 byte && nat_le byte 57 && nat_lt (10 * number + (byte - 48)) (2 ^ 64)
    then Some (10 * number + (byte - 48))
    else None

-- the number with these decimal digits after it
abbrev pub with_digits : ℕ → List ℕ → Option ℕ
with_digits number [] = Some number
with_digits number (byte ∷ bytes) =
    option_and_then (λ n. with_digits n bytes) (with_digit number byte)

-- the number that decimal digits spell, below 2 ^ 64
abbrev pub number_of : List ℕ → Option ℕ
number_of [] = None
number_of (byte ∷ bytes) = with_digits 0 (byte ∷ bytes)

-- the number that decimal digits spell, if it is in this range
abbrev pub number_within : ℕ → ℕ → List ℕ → Option ℕ
number_within least most digits =
    option_and_then (λ n. if nat_le least n && nat_le n most then Some n else None)
    (number_of digits)
