-- A row of the canvas: the pixels from the left up to the last column that was drawn on, and what
-- they cost. The rule is this library's own: a row that is too small doubles its capacity, up to
-- the greatest side of an image.
use Rattle.std.specs.Prelude.{ℕ, ◌+◌, ◌-◌, ◌*◌, ◌<◌, ◌≤◌, min, max, nat_lt, if◌then◌else◌, List, []}
use Rattle.std.specs.Prelude.{◌++◌, length, take, drop, replicate}

-- the pixels of a row, of four bytes each, for how many it has memory, and how many pixels it has
-- written
pub record RowState : Type 0 where
  pub background : List ℕ
  pub pixels : List (List ℕ)
  pub room : ℕ
  pub writes : ℕ

-- the row with these parts
abbrev pub row_state : List ℕ → List (List ℕ) → ℕ → ℕ → RowState
row_state background pixels room writes = record {
  background = background;
  pixels = pixels;
  room = room;
  writes = writes;
}

-- a row that was not drawn on
abbrev pub empty_row : List ℕ → RowState
empty_row background = row_state background [] 0 0

-- true of every row: its capacity is at most twice its pixels, and its writes are from once to
-- three times these
pub record IsThrifty (row : RowState) : Type 0 where
  pub held : length row.pixels ≤ row.room
  pub room_at_most : row.room ≤ 2 * length row.pixels
  pub side : row.room ≤ 1000000
  pub at_least : length row.pixels ≤ row.writes
  pub at_most : row.writes ≤ 3 * length row.pixels
  pub growing : row.room < 1000000 → row.writes ≤ length row.pixels + row.room

-- the capacity of a row of capacity `room` after it grew to `columns`
abbrev pub room_for : ℕ → ℕ → ℕ
room_for columns room = if nat_lt room columns then max columns (min 1000000 (2 * room)) else room

-- the pixels that this writes: those that are added, and those that move to a greater capacity
abbrev pub writes_for : ℕ → RowState → ℕ
writes_for columns row =
    columns - length row.pixels + (if nat_lt row.room columns then length row.pixels else 0)

-- the row, grown by background to `columns` if it has fewer
abbrev pub reached_to : ℕ → RowState → RowState
reached_to columns row = record row {
  pixels = row.pixels ++ replicate (columns - length row.pixels) row.background;
  room = room_for columns row.room;
  writes = row.writes + writes_for columns row;
}

-- the row with the columns from .. up to before to in this color
abbrev pub painted : ℕ → ℕ → List ℕ → RowState → RowState
painted from to color row = record row {
  pixels = take from row.pixels ++ replicate (to - from) color ++ drop to row.pixels;
}
