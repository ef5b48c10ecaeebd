-- The classes of a payload's bytes, which part of the bytes is the payload's own, and what of it
-- carries meaning: the bytes before the first terminator, without the ignored controls. From DEC's
-- account of sixel data and its C0 and C1 controls.
use Rattle.std.specs.Prelude.{ℕ, ◌==◌, nat_lt, nat_le, Bool, ◌&&◌, ◌||◌, not, if◌then◌else◌, List}
use Rattle.std.specs.Prelude.{[], ◌∷◌, length, Option, Some, None, is_some}

-- C0 controls and DEL, which are as if they were not there, but for CAN (18), SUB (1a) and ESC (1b)
abbrev pub is_ignored : ℕ → Bool
is_ignored byte =
    nat_lt byte 0x18 || byte == 0x19 || nat_le 0x1c byte && nat_lt byte 0x20 || byte == 0x7f

-- CAN, SUB, ESC and the C1 controls, which end a payload
abbrev pub is_terminator : ℕ → Bool
is_terminator byte =
    byte == 0x18 || byte == 0x1a || byte == 0x1b || nat_le 0x80 byte && nat_lt byte 0xa0

-- `?` to `~`: six pixels, the byte less 63
abbrev pub is_sixel : ℕ → Bool
is_sixel byte = nat_le 0x3f byte && nat_lt byte 0x7f

abbrev pub is_digit : ℕ → Bool
is_digit byte = nat_le 48 byte && nat_lt byte 58

-- a digit or a semicolon
abbrev pub is_parameter : ℕ → Bool
is_parameter byte = nat_le 48 byte && nat_lt byte 60 && not (byte == 58)

-- `!` `"` `#` `$` `-`: DECGRI, DECGRA, DECGCI, DECGCR, DECGNL
abbrev pub is_command : ℕ → Bool
is_command byte = nat_le 33 byte && nat_lt byte 37 || byte == 45

-- a byte with no meaning
abbrev pub is_skipped : ℕ → Bool
is_skipped byte = not (is_ignored byte || is_terminator byte || is_sixel byte || is_command byte)

-- the payload's own bytes
abbrev pub before_terminator : List ℕ → List ℕ
before_terminator [] = []
before_terminator (byte ∷ bytes) = if is_terminator byte then [] else byte ∷ before_terminator bytes

-- how many bytes are the payload's own
abbrev pub count : List ℕ → ℕ
count bytes = length (before_terminator bytes)

abbrev pub first_terminator : List ℕ → Option ℕ
first_terminator [] = None
first_terminator (byte ∷ bytes) = if is_terminator byte then Some byte else first_terminator bytes

abbrev pub is_terminated : List ℕ → Bool
is_terminated bytes = is_some (first_terminator bytes)

-- the bytes of them that carry meaning
abbrev pub carrying : List ℕ → List ℕ
carrying [] = []
carrying (byte ∷ bytes) = if is_ignored byte then carrying bytes else byte ∷ carrying bytes

-- the payload's own bytes that carry meaning
abbrev pub front : List ℕ → List ℕ
front bytes = carrying (before_terminator bytes)
