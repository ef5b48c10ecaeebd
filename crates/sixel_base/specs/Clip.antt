-- What a clip leaves of a picture: the columns and rows from the top left corner on that are inside
-- it. Nothing outside is drawn or stored. A clip has no effect on faults. The rule is this
-- library's own.
use Rattle.std.specs.Prelude.{ℕ, ◌+◌, ◌-◌, ◌%◌, ◌^◌, min, nat_le, nat_lt, Bool, ◌&&◌, if◌then◌else◌}
use Rattle.std.specs.Prelude.{List}
use Rattle.sixel_base.specs.{History.History, Limits.Limit, Place.{across, down, width, height}}
use Rattle.sixel_base.specs.Stroke.{Origin, background, pixel}

-- the width and the height of what is inside
abbrev pub clipped_width : Limit → History → ℕ
clipped_width limit history = min (width history) limit.columns

abbrev pub clipped_height : Limit → History → ℕ
clipped_height limit history = min (height history) limit.rows

-- whether the next sixel has its first pixel inside
abbrev pub is_inside : Limit → History → Bool
is_inside limit history = nat_lt (across history) limit.columns && nat_lt (down history) limit.rows

-- the bits of a sixel in rows that are inside, where its top row is this one
abbrev pub clipped_bits : Limit → ℕ → ℕ → ℕ
clipped_bits limit top bits =
    if nat_le (top + 6) limit.rows then bits else bits % 2 ^ (limit.rows - top)

-- whether a pixel is inside
abbrev pub is_pixel_inside : Limit → ℕ → ℕ → Bool
is_pixel_inside limit column row = nat_lt column limit.columns && nat_lt row limit.rows

-- the pixel of the picture if it is inside, else background
abbrev pub clipped_pixel : Origin → History → ℕ → ℕ → List ℕ
clipped_pixel origin history column row =
    if is_pixel_inside origin.pixel_limit column row then pixel origin history column row
    else background origin
