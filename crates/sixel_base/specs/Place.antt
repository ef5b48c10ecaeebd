-- Where a sixel is drawn and how large a picture is. Each definition looks back from the newest
-- token: the count of a repeat introducer for the next sixel, the columns since the last return or
-- new line, the new lines, the edges and the sizes of raster attributes.
use Rattle.std.specs.Prelude.{ℕ, ◌+◌, max, nat_lt, if◌then◌else◌, [], ◌∷◌}
use Rattle.sixel_base.specs.Fields.{field}
use Rattle.sixel_base.specs.History.{Sixel, Repeat, Raster, Return, Newline, History}

-- over how many columns the next sixel is drawn: the last repeat since the previous sixel, where 0
-- means 1
abbrev pub span : History → ℕ
span [] = 1
span (Repeat text ∷ older) = max 1 (field text 0)
span (Sixel _ ∷ older) = 1
span (_ ∷ older) = span older

-- the column of the next sixel: the spans of the sixels since the last return or new line
abbrev pub across : History → ℕ
across [] = 0
across (Sixel _ ∷ older) = across older + span older
across (Return ∷ older) = 0
across (Newline ∷ older) = 0
across (_ ∷ older) = across older

-- the top row of the next sixel: six for each new line
abbrev pub down : History → ℕ
down [] = 0
down (Newline ∷ older) = down older + 6
down (_ ∷ older) = down older

-- the greatest of 1, all right edges of sixels and all widths that raster attributes name
abbrev pub width : History → ℕ
width [] = 1
width (Sixel _ ∷ older) = max (width older) (across older + span older)
width (Raster text ∷ older) = max (width older) (field text 2)
width (_ ∷ older) = width older

-- the greatest of 1, all lower edges of sixels and all heights that raster attributes name
abbrev pub height : History → ℕ
height [] = 1
height (Sixel _ ∷ older) = max (height older) (down older + 6)
height (Raster text ∷ older) = max (height older) (field text 3)
height (_ ∷ older) = height older

-- the last height that is not zero of those that raster attributes name, 0 where there is none
abbrev pub raster_height : History → ℕ
raster_height [] = 0
raster_height (Raster text ∷ older) =
    if nat_lt 0 (field text 3) then field text 3 else raster_height older
raster_height (_ ∷ older) = raster_height older
