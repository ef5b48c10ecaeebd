-- What a canvas of one band shows: the final rows above the band, of which the first were released
-- and the others are stored, the six rows of the band, and background elsewhere. That no row above
-- the band changes any more is DEC's manual's: a graphics new line goes down, and nothing goes up.
use Rattle.std.specs.Prelude.{◌≡◌, ℕ, ◌+◌, ◌-◌, ◌*◌, ◌<◌, ◌≤◌, List, nat_lt, if◌then◌else◌, length}
use Rattle.std.specs.Prelude.{max}
use Rattle.sixel_canvas.specs.Drawn.{Run, band_edge, drawn_columns, least_moved, lowest_top}
use Rattle.sixel_canvas.specs.Drawn.{right_edge, rows_above, runs_cost, runs_paint}
use Rattle.sixel_canvas.specs.{Paints.counted, inside.ReleasedRows.released_pixel}
use Rattle.sixel_canvas.specs.inside.RowsState.{RowsState, final, stored_area}
use Rattle.sixel_canvas.specs.inside.TaggedBand.{TaggedState, capacity, tagged_cell}

-- the bytes of the released rows, how many these are, the final rows that are stored, the band, its
-- first row, how many columns of it are drawn on without an allocation, and how wide the picture is
-- at least, as raster attributes name it
pub record BandCanvasState : Type 0 where
  pub gone : List (List ℕ)
  pub released : ℕ
  pub rows : RowsState
  pub band : TaggedState
  pub top : ℕ
  pub held : ℕ
  pub expected : ℕ

-- the canvas with these parts
abbrev pub band_canvas_state : List (List ℕ) → ℕ → RowsState → TaggedState → ℕ → ℕ → ℕ
    → BandCanvasState
band_canvas_state gone released rows band top held expected = record {
  gone = gone;
  released = released;
  rows = rows;
  band = band;
  top = top;
  held = held;
  expected = expected;
}

-- the pixel at this place of the rows above the band
abbrev pub above_band : BandCanvasState → ℕ → ℕ → List ℕ
above_band canvas column row =
    if nat_lt row canvas.released then released_pixel canvas.gone canvas.rows.background column row
    else final canvas.rows column (row - canvas.released)

-- the pixel at this place
abbrev pub band_canvas_shown : BandCanvasState → ℕ → ℕ → List ℕ
band_canvas_shown canvas column row =
    if nat_lt row canvas.top then above_band canvas column row
    else tagged_cell canvas.band column (row - canvas.top)

-- There is memory for these columns in the band, and for its six rows among the stored ones.
pub record IsHeld (canvas : BandCanvasState) : Type 0 where
  pub drawn : canvas.held + 8 ≤ canvas.band.pixels.cap
  pub stored : canvas.held ≤ canvas.rows.width
  pub room : 4 * ((canvas.top - canvas.released + 6) * canvas.rows.width) ≤ canvas.rows.room
  pub bottom : canvas.top + 6 ≤ 1000000

-- how many columns a sixel of one column is drawn on at once: none while a tile may have a tag,
-- because the tile is painted in its tag first
abbrev pub band_canvas_held : BandCanvasState → ℕ
band_canvas_held canvas = if nat_lt 0 canvas.band.tags.extent then 0 else canvas.held

-- What is true of every canvas of one band. Stored rows were moved at most once for each released
-- row, so that a release takes constant time in the mean.
pub record IsBandCanvas (canvas : BandCanvasState) : Type 0 where
  pub logged : length canvas.gone ≡ canvas.released
  pub above : canvas.released + canvas.rows.rows ≤ canvas.top
  pub shifts : canvas.rows.shifts ≤ canvas.released
  pub background : canvas.rows.background ≡ canvas.band.pixels.background
  pub reached : canvas.band.pixels.extent ≤ canvas.held
  pub narrow : canvas.held ≤ 1000000
  pub held : 0 < canvas.held → IsHeld canvas

-- What is true of a band that these runs were drawn on, and that has come down to this row: its
-- capacity is at most twice as wide as they reach. It has painted at least what they cost, and at
-- most twice the columns of their bands, and so much more for each run. The second time is that of
-- its tags, which are painted once the band moves down: those of its present row are still to be
-- painted.
pub record IsPaid (capacity painted extent tagged top : ℕ) (runs : List Run) : Type 0 where
  pub narrow : capacity ≤ 2 * right_edge runs + 16
  pub many : counted 0 (runs_cost runs) ≤ painted
  pub few : painted + band_edge runs top ≤ 2 * drawn_columns runs + runs_paint runs
  pub edge : band_edge runs top ≤ extent
  pub inside : 128 * tagged ≤ band_edge runs top
  pub below : (row : ℕ) → top < row → band_edge runs row ≡ 0

-- The rows of a canvas whose picture has `width` columns, or will have them, are at most twice as
-- wide. Pixels that were written to give rows another width are at most two for each stored pixel,
-- and four for each pixel that was released.
pub record IsLaidOut (canvas : BandCanvasState) (width : ℕ) : Type 0 where
  pub expected : canvas.expected ≤ width
  pub wide : canvas.rows.width ≤ 2 * width
  pub moved : canvas.rows.moved ≤ 2 * stored_area canvas.rows + 4 * (canvas.released * width)

-- These columns can be drawn and appended without an allocation. Else the canvas is the same, but
-- its rows may have become wider.
pub record HasColumns (old new : BandCanvasState) (columns : ℕ) : Type 0 where
  pub held : columns ≤ new.held
  pub shown : (column row : ℕ)
      → band_canvas_shown new column row ≡ band_canvas_shown old column row
  pub top : new.top ≡ old.top
  pub released : new.released ≡ old.released
  pub within : capacity new.band ≤ max (capacity old.band) (2 * columns + 16)
  pub extent : new.band.pixels.extent ≡ old.band.pixels.extent
  pub tagged : new.band.tags.extent ≡ old.band.tags.extent
  pub painted : new.band.painted ≡ old.band.painted
  pub rows : new.rows.rows ≡ old.rows.rows
  pub moved : counted old.rows.moved
      (if nat_lt old.rows.width columns then old.rows.rows * columns else 0) ≤ new.rows.moved
  pub laid : (width : ℕ) → columns ≤ width → IsLaidOut old width → IsLaidOut new width

-- how wide the picture of these runs is at least, where raster attributes name this width
abbrev pub least_width : ℕ → List Run → ℕ
least_width named runs = max named (right_edge runs)

-- What is true of a canvas that these runs were drawn on: pixels were written to give rows another
-- width at most four times for each pixel of the picture above the lowest band, and at least for
-- each run that was much wider than the rows.
pub record AreMoved (canvas : BandCanvasState) (named : ℕ) (runs : List Run) : Type 0 where
  pub laid : IsLaidOut canvas (least_width named runs)
  pub few : canvas.rows.moved ≤ 4 * (lowest_top runs * least_width named runs)
  pub many : counted 0 (least_moved named canvas.released runs) ≤ canvas.rows.moved

-- The rows of each band above the canvas's own with a set pixel are stored, if not released.
abbrev pub AreStored : BandCanvasState → List Run → Type 0
AreStored canvas runs = rows_above runs canvas.top ≤ canvas.released + canvas.rows.rows
