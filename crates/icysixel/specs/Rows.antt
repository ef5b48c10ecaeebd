-- The rows of an image in the caller's memory. A stride is the number of bytes from the start of a
-- row to the start of the next.
use Rattle.std.specs.Prelude.{ℕ, ◌+◌, ◌-◌, ◌*◌, ◌==◌, nat_lt, ◌||◌, if◌then◌else◌, List, Option}
use Rattle.std.specs.Prelude.{Some, None, slice_range, Bool, true, false}
use Rattle.sixel_base.specs.Picture.{joined}
use Rattle.icy_sixel.specs.ReceivedRows.{usize_max}

-- the stride that C passes: 0 means rows without gaps
abbrev pub stride_of : ℕ → ℕ → ℕ
stride_of stride wide = if stride == 0 then wide else stride

-- whether rows have gaps at this stride, so that an encoding copies them first
abbrev pub has_gaps : ℕ → ℕ → Bool
has_gaps stride wide = if stride == wide then false else true

-- the number of bytes from the start of the first row to the end of the last
abbrev pub extent : ℕ → ℕ → ℕ → ℕ
extent stride wide height = stride * (height - 1) + wide

-- the same, if a row fits its stride and the number fits a usize
abbrev pub wanted : ℕ → ℕ → ℕ → Option ℕ
wanted stride wide height =
    if nat_lt stride wide || nat_lt usize_max (extent stride wide height) then None
    else Some (extent stride wide height)

-- the rows, joined
abbrev pub rows_of : ℕ → ℕ → ℕ → List ℕ → List ℕ
rows_of stride wide height bytes =
    joined (λ row. slice_range bytes (row * stride) (row * stride + wide)) height
