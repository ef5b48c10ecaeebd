-- What runs paint, at most: pixels and tags that are filled, while a row's growing is counted by
-- its own writes. The rule is this library's own: a wide run over what was drawn tags the tiles
-- that it covers whole.
use Rattle.std.specs.Prelude.{ℕ, ◌+◌, ◌*◌, ◌/◌, min}

-- a count that so much is added to, and that stays at the greatest number of 64 bits
abbrev pub counted : ℕ → ℕ → ℕ
counted paints more = min (paints + more) 18446744073709551615

-- what six rows of a run over `columns` paint: one tag per tile, and two ends
abbrev pub ends_and_tags : ℕ → ℕ
ends_and_tags columns = 6 * (columns / 128 + 256)

-- what six rows of a run over `columns` paint at least
abbrev pub least_painted : ℕ → ℕ
least_painted columns = min (6 * columns) (ends_and_tags columns)
