-- What a canvas of rows shows, and what it has cost by the runs that were drawn on it: pixels that
-- were copied or filled to grow its rows, their capacity, and pixels that were painted. The rules
-- are this library's own: a row has pixels only up to the last column that was drawn on, and a band
-- without a set pixel has no rows.
use Rattle.std.specs.Prelude.{◌≡◌, ℕ, ◌+◌, ◌-◌, ◌*◌, ◌/◌, ◌%◌, ◌^◌, ◌<◌, ◌≤◌, max, if◌then◌else◌}
use Rattle.std.specs.Prelude.{List, [], ◌∷◌, All, length, slice_index_or, sum_by}
use Rattle.sixel_base.specs.{Limits.side_limit, Picture.{is_struck, total}}
use Rattle.sixel_canvas.specs.{Drawn.{Run, Work, runs_least}, Paints.{counted, ends_and_tags}}
use Rattle.sixel_canvas.specs.inside.{RowBand.{IsRowBand, least, line_in}, TaggedRow.TaggedRowState}
use Rattle.sixel_canvas.specs.inside.TaggedRow.{tagged_pixel}

-- the background, the rows of each band from the top, how many bands are above the one that is
-- drawn on, and what runs have painted, at most, beside what they painted past all that was drawn
-- on
pub record RowCanvasState : Type 0 where
  pub background : List ℕ
  pub bands : List (List TaggedRowState)
  pub band : ℕ
  pub paints : ℕ

-- the canvas with these parts
abbrev pub row_canvas_state : List ℕ → List (List TaggedRowState) → ℕ → ℕ → RowCanvasState
row_canvas_state background bands band paints =
    record { background = background; bands = bands; band = band; paints = paints }

-- the row at this place, with no pixels where none was made
abbrev pub line_of : RowCanvasState → ℕ → TaggedRowState
line_of canvas row =
    line_in (slice_index_or canvas.bands (row / 6) []) canvas.background (row % 6)

-- the pixel at this place
abbrev pub row_canvas_shown : RowCanvasState → ℕ → ℕ → List ℕ
row_canvas_shown canvas column row = tagged_pixel (line_of canvas row) column

-- how many columns the row has
abbrev pub row_len : RowCanvasState → ℕ → ℕ
row_len canvas row = length (line_of canvas row).row.pixels

-- the rows of the band that is drawn on
abbrev pub band_rows : RowCanvasState → List TaggedRowState
band_rows canvas = slice_index_or canvas.bands canvas.band []

abbrev pub band_line : RowCanvasState → ℕ → TaggedRowState
band_line canvas k = line_in (band_rows canvas) canvas.background k

-- how many columns all six rows of the band have
abbrev pub row_canvas_held : RowCanvasState → ℕ
row_canvas_held canvas = least (λ k. length (band_line canvas k).row.pixels) 6

-- what it has cost: pixels that were copied or filled to grow the rows, their capacity, and pixels
-- and tags that were painted, at most
abbrev pub row_canvas_work : RowCanvasState → Work
row_canvas_work canvas = record {
  writes = sum_by (sum_by (λ line. line.row.writes)) canvas.bands;
  room = sum_by (sum_by (λ line. line.row.room)) canvas.bands;
  paints = counted canvas.paints (sum_by (sum_by (λ line. line.appended)) canvas.bands);
}

-- what is true of every canvas of rows
pub record IsRowCanvas (canvas : RowCanvasState) : Type 0 where
  pub few : 6 * length canvas.bands ≤ side_limit
  pub needed : length canvas.bands ≤ canvas.band + 1
  pub bands : All IsRowBand canvas.bands
  pub low : 6 * canvas.band < 2 ^ 64

-- the greatest right edge of these runs in this row, 0 where none sets a pixel of it
abbrev pub row_edge : List Run → ℕ → ℕ
row_edge [] row = 0
row_edge (newest ∷ runs) row =
    if is_struck newest.top newest.bits row then max (row_edge runs row) newest.to
    else row_edge runs row

-- what these runs are counted as at most, beside three times the pixels of the rows: of each a tag
-- for each whole 128 columns and two ends, in six rows
abbrev pub runs_most : List Run → ℕ
runs_most [] = 0
runs_most (newest ∷ runs) = runs_most runs + ends_and_tags (newest.to - newest.from)

-- What is true of a canvas that these runs were drawn on, the newest first: each row has pixels
-- exactly up to its right edge.
pub record IsDrawnBy (canvas : RowCanvasState) (runs : List Run) : Type 0 where
  pub sound : IsRowCanvas canvas
  pub edges : (row : ℕ) → row_len canvas row ≡ row_edge runs row
  pub least : counted 0 (runs_least runs) ≤ canvas.paints
  pub most : canvas.paints ≤ runs_most runs

-- What these runs have cost, of which none sets a pixel from row n on: the rows have copied or
-- filled from once to three times the area of their right edges, they have capacity for at most
-- twice that area, and at most three times that area was painted beside what the runs count.
pub record HasCost (work : Work) (runs : List Run) (n : ℕ) : Type 0 where
  pub at_least : total (row_edge runs) n ≤ work.writes
  pub at_most : work.writes ≤ 3 * total (row_edge runs) n
  pub room : work.room ≤ 2 * total (row_edge runs) n
  pub least : counted 0 (runs_least runs) ≤ work.paints
  pub most : work.paints ≤ 3 * total (row_edge runs) n + runs_most runs

-- the tags of these rows and the memory for them are at most one for each 128 columns, and twice
abbrev pub AreFewTags : RowCanvasState → Type 0
AreFewTags canvas = (row : ℕ)
    → (128 * length (line_of canvas row).tags.pixels ≤ row_len canvas row)
    × ((line_of canvas row).tags.room ≤ 2 * length (line_of canvas row).tags.pixels)
