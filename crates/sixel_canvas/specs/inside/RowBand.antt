-- The rows of one band of a canvas of rows: six, or none as long as no pixel of it is set. The rule
-- is this library's own.
use Rattle.std.specs.Prelude.{◌≡◌, ℕ, zero, suc, ◌<◌, min, List, All, length, slice_index_or}
use Rattle.sixel_base.specs.Limits.{side_limit}
use Rattle.sixel_canvas.specs.inside.TaggedRow.{TaggedRowState, IsTaggedRow, empty_tagged_row}

-- the row at this place, with no pixels where none was made
abbrev pub line_in : List TaggedRowState → List ℕ → ℕ → TaggedRowState
line_in rows background row = slice_index_or rows row (empty_tagged_row background)

-- the least of f 0, f 1, .. up to before n, and of the greatest width
abbrev pub least : (ℕ → ℕ) → ℕ → ℕ
least f zero = side_limit
least f (suc n) = min (least f n) (f n)

-- what is true of the rows of every band
pub record IsRowBand (band : List TaggedRowState) : Type 0 where
  pub whole : 0 < length band → length band ≡ 6
  pub rows : All IsTaggedRow band
