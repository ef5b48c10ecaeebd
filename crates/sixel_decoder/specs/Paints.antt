-- How many sixels are closed, what they are counted as at least inside the clip, and how wide their
-- bands are there. Painting is measured by these beside the area that they reach. The measure is
-- this library's own, by Drawn of sixel_canvas, and says nothing of how pixels are stored. What a
-- sixel is, by DEC's manual, is in History.
use Rattle.std.specs.Prelude.{ℕ, suc, ◌+◌, ◌-◌, ◌*◌, ◌&&◌, min, max, nat_lt, if◌then◌else◌, List}
use Rattle.std.specs.Prelude.{[], ◌∷◌, Option, Some, None}
use Rattle.sixel_base.specs.{Clip.{clipped_bits, clipped_width, is_inside}, Dcs.{Stage, Heading}}
use Rattle.sixel_base.specs.{Dcs.{Failing, Reading}, History.{Raster, Sixel, History}, Limits.Limit}
use Rattle.sixel_base.specs.{Payload.{settled, settled_tokens}, Place.{across, down, span}}
use Rattle.sixel_canvas.specs.Drawn.{Run, run, rows_above, drawn_columns, runs_cost, runs_least}
use Rattle.sixel_canvas.specs.Paints.{counted}

-- how many of the tokens are sixels
abbrev pub sixels : History → ℕ
sixels [] = 0
sixels (Sixel bits ∷ older) = suc (sixels older)
sixels (_ ∷ older) = sixels older

-- the runs that the sixels of a history draw on a canvas inside the clip, newest first
abbrev pub runs_of : Limit → History → List Run
runs_of limit [] = []
runs_of limit (Sixel bits ∷ older) =
    if is_inside limit older
    then run (across older) (min (across older + span older) limit.columns) (down older)
    (clipped_bits limit (down older) bits) ∷ runs_of limit older
    else runs_of limit older
runs_of limit (_ ∷ older) = runs_of limit older

-- what a sixel is counted as at most, beside three times the painted area of the image
abbrev pub most_sixel_paints : ℕ
most_sixel_paints = 4602

-- what the sixels are counted as at least, by a count that stays at the greatest number of 64 bits
abbrev pub least_count : Limit → History → ℕ
least_count limit history = counted 0 (runs_least (runs_of limit history))

-- the same on a canvas of one band
abbrev pub least_band_count : Limit → History → ℕ
least_band_count limit history = counted 0 (runs_cost (runs_of limit history))

-- the greatest right edges of all bands together
abbrev pub band_columns : Limit → History → ℕ
band_columns limit history = drawn_columns (runs_of limit history)

-- what a sixel is counted as at most on a canvas of one band, beside the columns of its band: a tag
-- for each whole 128 columns, and 640 for its two ends and for tagged tiles that it covers in part
abbrev pub most_run_paints : ℕ
most_run_paints = 1151

-- for how many pixels and tags a canvas of one band has capacity at most beside the image: six rows
-- of twice the width and 16 columns
abbrev pub band_room : Limit → History → ℕ
band_room limit history = 12 * clipped_width limit history + 96

-- how often a canvas of one band writes each pixel of the picture at most, on average, as rows
-- become wider than it expected
abbrev pub most_row_writes : ℕ
most_row_writes = 4

-- the greatest width of the picture inside the clip after raster attributes, 0 where there are none
abbrev pub named_width : Limit → History → ℕ
named_width limit [] = 0
named_width limit (Raster text ∷ older) =
    max (named_width limit older) (clipped_width limit (Raster text ∷ older))
named_width limit (_ ∷ older) = named_width limit older

-- how many pixels a canvas of one band writes at least as rows become wider, where raster
-- attributes name this width, and rows above `released` are released: for each sixel that reaches
-- more than twice as far as the picture is wide, its right edge in each row of the bands above it
abbrev pub least_row_writes : Limit → ℕ → ℕ → History → ℕ
least_row_writes limit named released [] = 0
least_row_writes limit named released (Sixel bits ∷ older) =
    least_row_writes limit named released older
    + (if is_inside limit older && nat_lt 0 (clipped_bits limit (down older) bits)
    && nat_lt (2 * max named (clipped_width limit older))
    (min (across older + span older) limit.columns)
    then (rows_above (runs_of limit older) (down older) - released)
    * min (across older + span older) limit.columns else 0)
least_row_writes limit named released (_ ∷ older) = least_row_writes limit named released older

-- the least count of these, which stays at the greatest number of 64 bits
abbrev pub least_write_count : Limit → ℕ → History → ℕ
least_write_count limit released history =
    counted 0 (least_row_writes limit (named_width limit history) released history)

-- how many pixels a picture of this size has, if there is one
abbrev pub area_of : Option (ℕ × ℕ) → ℕ
area_of None = 0
area_of (Some size) = size.0 * size.1

-- a measure of the closed tokens of a payload that take effect, and 0 before a payload
abbrev pub stage_measure : (History → ℕ) → Limit → Stage → ℕ
stage_measure measure limit Heading = 0
stage_measure measure limit (Failing fault) = 0
stage_measure measure limit (Reading settings payload) = measure (settled_tokens limit payload)

-- how many closed sixels the payload of a DCS sequence has
abbrev pub stage_sixels : Stage → ℕ
stage_sixels Heading = 0
stage_sixels (Failing fault) = 0
stage_sixels (Reading settings payload) = sixels (settled payload)
