-- How much memory the pixels of a finished image take. The rule is this library's own: rows that
-- were reserved, released or cropped leave memory that the image does not need.
use Rattle.std.specs.Prelude.{ℕ, ◌*◌}

-- the greatest capacity, in bytes, of so many bytes of pixels
abbrev pub most_capacity : ℕ → ℕ
most_capacity bytes = 2 * bytes
