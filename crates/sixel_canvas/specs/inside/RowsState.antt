-- What the final rows of an image show: the pixel at each place, in bytes of four a pixel, row by
-- row, and background where there is none. The layout is that of the image, as Picture of
-- sixel_base has it.
use Rattle.std.specs.Prelude.{◌≡◌, ℕ, ◌+◌, ◌*◌, ◌≤◌, List, length}
use Rattle.sixel_canvas.specs.Layout.{stored_pixel}

-- the background, the bytes of the rows, how many columns and rows they have, for how many bytes
-- there is memory, how many pixels were written to give rows another width, and how many rows were
-- moved to the memory of removed rows, with those removed since
pub record RowsState : Type 0 where
  pub background : List ℕ
  pub bytes : List ℕ
  pub width : ℕ
  pub rows : ℕ
  pub room : ℕ
  pub moved : ℕ
  pub shifts : ℕ

-- the rows with these parts
abbrev pub rows_state : List ℕ → List ℕ → ℕ → ℕ → ℕ → ℕ → ℕ → RowsState
rows_state background bytes width rows room moved shifts = record {
  background = background;
  bytes = bytes;
  width = width;
  rows = rows;
  room = room;
  moved = moved;
  shifts = shifts;
}

-- how many pixels are stored
abbrev pub stored_area : RowsState → ℕ
stored_area rows = rows.rows * rows.width

-- the pixel at this place
abbrev pub final : RowsState → ℕ → ℕ → List ℕ
final rows = stored_pixel rows.bytes rows.width rows.rows rows.background

-- what is true of the rows of every image
pub record AreRows (rows : RowsState) : Type 0 where
  pub fits : length rows.bytes ≡ 4 * (rows.rows * rows.width)
  pub narrow : rows.width ≤ 2000000
  pub few : rows.rows ≤ 1000006

-- From the first of these to the second, pixels were written to give rows another width at most
-- twice as often as pixels were added: each new width is at least twice the one before.
abbrev pub AreMovedWithin : RowsState → RowsState → Type 0
AreMovedWithin old new = new.moved + 2 * stored_area old ≤ old.moved + 2 * stored_area new

-- The rows are the same. There is memory for `rows` of them if there was before.
pub record AreShrunk (old new : RowsState) (rows : ℕ) : Type 0 where
  pub same : new ≡ record old { room = new.room }
  pub room : 4 * (rows * old.width) ≤ old.room → 4 * (rows * old.width) ≤ new.room
