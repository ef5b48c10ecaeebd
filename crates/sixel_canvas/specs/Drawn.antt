-- What a canvas is drawn by: runs of a sixel, and eight sixels of one column each. A
-- sixel's bits are DEC's, the least bit the top row's. That a canvas has a band of six rows, and
-- goes on to the next at a graphics new line, is DEC's manual's as well.
use Rattle.std.specs.Prelude.{ℕ, ◌+◌, ◌-◌, ◌*◌, ◌/◌, ◌==◌, max, Bool, ◌&&◌, nat_le, nat_lt}
use Rattle.std.specs.Prelude.{List, [], ◌∷◌, slice_index_or, if◌then◌else◌}
use Rattle.sixel_base.specs.Picture.{is_struck}
use Rattle.sixel_canvas.specs.Paints.{least_painted}

-- a sixel over the columns from .. up to before to, in the six rows from top on
pub record Run : Type 0 where
  pub from : ℕ
  pub to : ℕ
  pub top : ℕ
  pub bits : ℕ

abbrev pub run : ℕ → ℕ → ℕ → ℕ → Run
run from to top bits = record { from = from; to = to; top = top; bits = bits }

-- what a canvas has cost: how many pixels it wrote as it grew, for how many it has capacity, and
-- how many runs have painted at most
pub record Work : Type 0 where
  pub writes : ℕ
  pub room : ℕ
  pub paints : ℕ

-- the work of a canvas that nothing was drawn on
abbrev pub no_work : Work
no_work = record { writes = 0; room = 0; paints = 0 }

-- these runs, newest first, and after them sixels of one column each, the first at column from
abbrev pub with_sixels : ℕ → List ℕ → ℕ → List Run → List Run
with_sixels from [] top runs = runs
with_sixels from (sixel ∷ sixels) top runs =
    with_sixels (from + 1) sixels top (run from (from + 1) top sixel ∷ runs)

-- the greatest right edge of these runs, 0 where there is none
abbrev pub right_edge : List Run → ℕ
right_edge [] = 0
right_edge (newest ∷ runs) = max (right_edge runs) newest.to

-- the first row of the lowest band that one of these runs is in, 0 where there is none
abbrev pub lowest_top : List Run → ℕ
lowest_top [] = 0
lowest_top (newest ∷ runs) = max (lowest_top runs) newest.top

-- how many rows there are down to the last band above this row with a set pixel
abbrev pub rows_above : List Run → ℕ → ℕ
rows_above [] top = 0
rows_above (newest ∷ runs) top =
    if nat_lt newest.top top && nat_lt 0 newest.bits && nat_lt 0 newest.to
    then max (rows_above runs top) (newest.top + 6)
    else rows_above runs top

-- how many pixels are written at least to give rows another width, where raster attributes name
-- this width, and rows above `released` are not stored: for each run that reaches more than twice
-- as far as the picture did, its right edge in each row of the bands above it
abbrev pub least_moved : ℕ → ℕ → List Run → ℕ
least_moved named released [] = 0
least_moved named released (newest ∷ runs) =
    least_moved named released runs
    + (if nat_lt 0 newest.bits && nat_lt (2 * max named (right_edge runs)) newest.to
    then (rows_above runs newest.top - released) * newest.to else 0)

-- the greatest right edge in the band from this row on, 0 where nothing is set there
abbrev pub band_edge : List Run → ℕ → ℕ
band_edge [] top = 0
band_edge (newest ∷ runs) top =
    if newest.top == top && nat_lt 0 newest.bits then max (band_edge runs top) newest.to
    else band_edge runs top

-- the right edges of all bands together: how many columns they have
abbrev pub drawn_columns : List Run → ℕ
drawn_columns [] = 0
drawn_columns (newest ∷ runs) =
    drawn_columns runs + (band_edge (newest ∷ runs) newest.top - band_edge runs newest.top)

-- what these runs paint at most beside the columns of their bands: of each a tag for each whole 128
-- columns, and 640 for its two ends and for tagged tiles that it covers in part
abbrev pub runs_paint : List Run → ℕ
runs_paint [] = 0
runs_paint (newest ∷ runs) = runs_paint runs + ((newest.to - newest.from) / 128 + 640)

-- what a run over `columns` paints at least: each column, or a tag for each whole 128 columns
abbrev pub least_cost : ℕ → ℕ
least_cost columns = if nat_lt columns 256 then columns else columns / 128

-- what these runs paint a band at least, where one without a set pixel paints nothing
abbrev pub runs_cost : List Run → ℕ
runs_cost [] = 0
runs_cost (newest ∷ runs) =
    runs_cost runs + (if nat_lt 0 newest.bits then least_cost (newest.to - newest.from) else 0)

-- what these runs are counted as at least on rows, where one without a set pixel counts nothing
abbrev pub runs_least : List Run → ℕ
runs_least [] = 0
runs_least (newest ∷ runs) =
    runs_least runs + (if nat_lt 0 newest.bits then least_painted (newest.to - newest.from) else 0)

-- whether eight sixels of one column each, the first at column from, cover the pixel
abbrev pub covers_eight : ℕ → List ℕ → ℕ → ℕ → ℕ → Bool
covers_eight from sixels top column row =
    nat_le from column && nat_lt column (from + 8)
    && is_struck top (slice_index_or sixels (column - from) 0) row
