-- Bytes that are sixels, and their bits. A sixel is a byte from `?` to `~`, by DEC's account of
-- sixel data, and its least bit is the top row's.
use Rattle.std.specs.Prelude.{ℕ, ◌-◌, ◌<◌, ◌≤◌, max, List, [], ◌∷◌, length, slice_index}
use Rattle.sixel_base.specs.DrawnHeight.{set_rows}

-- a space to `~`: neither an ignored control nor a terminator
abbrev pub IsPrintable : ℕ → Type 0
IsPrintable byte = (32 ≤ byte) × (byte < 127)

-- `?` to `~`
abbrev pub IsSixelByte : ℕ → Type 0
IsSixelByte byte = (63 ≤ byte) × (byte < 127)

-- each byte is a sixel
abbrev pub IsRun : List ℕ → Type 0
IsRun run = (k : ℕ) → k < length run → IsSixelByte (slice_index run k)

-- the bits of each sixel
abbrev pub bits_of : List ℕ → List ℕ
bits_of [] = []
bits_of (byte ∷ run) = (byte - 63) ∷ bits_of run

-- the last row that one of these sixels sets, plus one, or 0 if there is none
abbrev pub most_rows : List ℕ → ℕ
most_rows [] = 0
most_rows (bits ∷ more) = max (set_rows bits) (most_rows more)
