-- A row of sixels as run-length tokens: a token is one sixel, or a repeat introducer with a count
-- and a sixel, as in DEC's sixel data. Two rules are this library's own: a count is at most
-- `repeat_limit`, and one of the shortest spellings is chosen.
use Rattle.std.specs.Prelude.{◌≡◌, ℕ, ◌+◌, ◌/◌, ◌%◌, ◌≤◌, ◌==◌, nat_lt, if◌then◌else◌, List, []}
use Rattle.std.specs.Prelude.{◌∷◌, ◌++◌, length, replicate, flat_map, All, decimal}
use Rattle.sixel_base.specs.Limits.{repeat_limit}

-- one sixel by its six bits, or a count of equal sixels
pub data RunToken : Type 0 where
  One : ℕ → RunToken
  Many : ℕ → ℕ → RunToken

-- the sixels of a token
unfoldable pub sixels : RunToken → List ℕ
sixels (One bits) = bits ∷ []
sixels (Many count bits) = replicate count bits

-- the bytes of a token: the sixel is 63 above its bits, the repeat introducer is `!`
abbrev pub spelling : RunToken → List ℕ
spelling (One bits) = (63 + bits) ∷ []
spelling (Many count bits) = 33 ∷ decimal count ++ (63 + bits) ∷ []

-- the bytes of a list of tokens
abbrev pub written : List RunToken → List ℕ
written tokens = flat_map spelling tokens

-- how many bytes they are
abbrev pub cost : List RunToken → ℕ
cost tokens = length (written tokens)

-- a count is from 1 to the greatest
abbrev pub IsRunToken : RunToken → Type 0
IsRunToken (One bits) = Unit {0}
IsRunToken (Many count bits) = (1 ≤ count) × (count ≤ repeat_limit)

-- the tokens, written out, are the row
pub record Spells (tokens : List RunToken) (row : List ℕ) : Type 0 where
  pub each : All IsRunToken tokens
  pub joined : flat_map sixels tokens ≡ row

-- no list of tokens that spells the row is shorter
abbrev pub IsShortest : List RunToken → List ℕ → Type 0
IsShortest tokens row = (others : List RunToken) → Spells others row → cost tokens ≤ cost others

-- a run shorter than the greatest count: up to three sixels singly, else one repeat
abbrev pub rest_tokens : ℕ → ℕ → List RunToken
rest_tokens count bits = if nat_lt 3 count then Many count bits ∷ [] else replicate count (One bits)

-- a run of equal sixels: repeats of the greatest count from the left, then the rest
abbrev pub run_tokens : ℕ → ℕ → List RunToken
run_tokens count bits =
    replicate (count / repeat_limit) (Many repeat_limit bits) ++ rest_tokens
    (count % repeat_limit) bits

-- the tokens of a run so far and of the row after it
abbrev pub tokens_after : ℕ → ℕ → List ℕ → List RunToken
tokens_after count bits [] = run_tokens count bits
tokens_after count bits (next ∷ row) =
    if next == bits then tokens_after (count + 1) bits row
    else run_tokens count bits ++ tokens_after 1 next row

-- the tokens of a row, run by run
abbrev pub row_tokens : List ℕ → List RunToken
row_tokens row = tokens_after 0 0 row
