-- The numeric parameters of a command: its text split at each semicolon. An empty field is 0, any
-- other the lesser of its decimal value and the limit. This is the parameter string of DEC's
-- control functions with a limit of our own.
use Rattle.sixel_base.specs.Limits.{parameter_limit}
use Rattle.std.specs.{List.slice_split, Prelude.{ℕ, ◌==◌, min, List, [], ◌∷◌, map, slice_index}}
use Rattle.std.specs.Str.Parse.{digits_value}

-- the value of one field of digits
abbrev pub parameter : List ℕ → ℕ
parameter piece = min (digits_value 10 piece) parameter_limit

-- the fields of a text of digits and semicolons: none, where it has no byte
abbrev pub fields : List ℕ → List ℕ
fields [] = []
fields (byte ∷ text) = map parameter (slice_split (λ b. b == 59) (byte ∷ text))

-- field k, counted from 0, and 0 where there is none
abbrev pub field : List ℕ → ℕ → ℕ
field text k = slice_index (fields text) k
