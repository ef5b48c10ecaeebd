-- The limits of the format, as this library sets them, and those that a host sets.
use Rattle.std.specs.Prelude.{ℕ, Bool, false}

-- the greatest width, height, edge of a sixel and raster size, in pixels
abbrev pub side_limit : ℕ
side_limit = 1000000

-- the greatest area of an image, in pixels: a host may choose a lower one
abbrev pub area_limit : ℕ
area_limit = 67108864

-- the greatest count of a repeat introducer
abbrev pub repeat_limit : ℕ
repeat_limit = 65535

-- the greatest value of a command's parameter, which greater ones are read as
abbrev pub parameter_limit : ℕ
parameter_limit = 2147483647

-- the greatest value of a header's parameter, which greater ones are read as
abbrev pub header_limit : ℕ
header_limit = 65535

-- which pixels an image may have: at most `pixels` of them, and those of its clip, `columns` from
-- the left and `rows` from the top; whether a command with a fault is ignored; whether pixels that
-- are not drawn are transparent whatever P2 says; and which register draws before one is selected
pub record Limit : Type 0 where
  pub pixels : ℕ
  pub columns : ℕ
  pub rows : ℕ
  pub lenient : Bool
  pub transparent : Bool
  pub first_register : ℕ

-- the limit that a host sets none above: it clips nothing
abbrev pub whole_limit : Limit
whole_limit = record {
  pixels = area_limit;
  columns = side_limit;
  rows = side_limit;
  lenient = false;
  transparent = false;
  first_register = 0;
}
