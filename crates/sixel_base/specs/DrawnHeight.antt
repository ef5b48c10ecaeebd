-- How high the drawn part of a picture is: the last row with a set pixel, plus one. A picture
-- without raster attributes is a whole number of bands high, and this is not. The measure is this
-- library's own; where sixels are drawn, by DEC's manual, is in Place.
use Rattle.std.specs.Prelude.{ℕ, zero, suc, ◌+◌, max, min, nat_lt, Bool, if◌then◌else◌, List, []}
use Rattle.std.specs.Prelude.{◌∷◌}
use Rattle.sixel_base.specs.{Dcs.{Stage, Heading, Failing, Reading}, History.{Sixel, History}}
use Rattle.sixel_base.specs.{Limits.Limit, Payload.{image_height, tokens}, Picture.is_set}
use Rattle.sixel_base.specs.Place.{down}

-- the last of the first k rows that a sixel with these bits sets, plus one, or 0 if there is none
abbrev pub set_rows_within : ℕ → ℕ → ℕ
set_rows_within bits zero = 0
set_rows_within bits (suc k) = if is_set bits k then suc k else set_rows_within bits k

-- the last row of a sixel with a set pixel, plus one, or 0 if there is none
abbrev pub set_rows : ℕ → ℕ
set_rows bits = set_rows_within bits 6

-- the greater of a height and the lower end of some rows from the top row on, if there are any
abbrev pub lowered : ℕ → ℕ → ℕ → ℕ
lowered before top rows = if nat_lt 0 rows then max before (top + rows) else before

-- the last row of the picture with a set pixel, plus one, or 0 if there is none
abbrev pub drawn_height : History → ℕ
drawn_height [] = 0
drawn_height (Sixel bits ∷ older) = lowered (drawn_height older) (down older) (set_rows bits)
drawn_height (_ ∷ older) = drawn_height older

-- that of a payload, down to the end of the clip: a command that is open draws nothing, so the end
-- changes nothing
abbrev pub payload_drawn_height : Limit → List ℕ → ℕ
payload_drawn_height limit bytes = min (drawn_height (tokens limit bytes)) limit.rows

-- that of a DCS sequence, and 0 before its payload
abbrev pub stage_drawn_height : Limit → Stage → ℕ
stage_drawn_height limit Heading = 0
stage_drawn_height limit (Failing fault) = 0
stage_drawn_height limit (Reading settings payload) = payload_drawn_height limit payload

-- the drawn height of an image: at most its height, because crop can end an image above the last
-- set pixel of its picture
abbrev pub image_drawn_height : Limit → Bool → History → ℕ
image_drawn_height limit raster_crop history =
    min (drawn_height history) (image_height limit raster_crop history)
