-- The pixels of a row that was painted or grown: how many, and which.
use Rattle.std.proofs.Common.{◌≡◌, ℕ, ◌-◌, ◌<◌, ◌≤◌, ◌&&◌, max, List, ◌++◌, length, get_or}
use Rattle.std.proofs.Common.{replicate, length-append, length-take, length-drop, get_or-take}
use Rattle.std.proofs.{Common.{get_or-drop, arith}, lemmas.Bool.lt-leb}
use Rattle.std.proofs.lemmas.List.{length-replicate, get_or-replicate, get_or-append_right}
use Rattle.std.proofs.{lemmas.List.{get_or_append_left, get_or_past}, lemmas.Bool.Decides.nat_tests}
use Rattle.std.specs.Prelude.{nat_lt, nat_le, if◌then◌else◌}
use Rattle.sixel_canvas.specs.Row.{RowState, painted, reached_to}

-- a row that was painted has as many pixels
pub painted_length : (from to : ℕ) (color : List ℕ) (row : RowState) → from ≤ to
    → to ≤ length row.pixels → length (painted from to color row).pixels ≡ length row.pixels
painted_length from to color row order held =
    grind (arith, nat_tests, length-append, length-take, length-drop, length-replicate)

-- what is read of parts of lists, one after another
pub ruleset parts = (
  length-append,
  length-take,
  length-drop,
  length-replicate,
  get_or-take,
  get_or-drop,
  get_or-replicate,
  get_or_append_left,
  get_or-append_right,
  get_or_past,
)

-- one of them
pub painted_pixel : (from to : ℕ) (color : List ℕ) (row : RowState) (column : ℕ) (d : List ℕ)
    → from ≤ to → to ≤ length row.pixels
    → get_or (painted from to color row).pixels column d
    ≡ (if nat_le from column && nat_lt column to then color else get_or row.pixels column d)
painted_pixel from to color row column d order held = grind (arith, parts)

-- outside the columns that were painted, and inside
pub painted_left : (from to : ℕ) (color : List ℕ) (row : RowState) (column : ℕ) (d : List ℕ)
    → from ≤ to → to ≤ length row.pixels → column < from
    → get_or (painted from to color row).pixels column d ≡ get_or row.pixels column d
painted_left from to color row column d order held left =
    rw (lt-leb from column left) at (painted_pixel from to color row column d order held)

pub painted_right : (from to : ℕ) (color : List ℕ) (row : RowState) (column : ℕ) (d : List ℕ)
    → from ≤ to → to ≤ length row.pixels → to ≤ column
    → get_or (painted from to color row).pixels column d ≡ get_or row.pixels column d
painted_right from to color row column d order held right = grind (arith, nat_tests, painted_pixel)

-- how many pixels a row has that was grown
pub grown_length : (columns : ℕ) (row : RowState)
    → length (reached_to columns row).pixels ≡ max (length row.pixels) columns
grown_length columns row = grind (arith, nat_tests, length-append, length-replicate)

-- the default, appended, changes nothing
pub get_or-more_default : {X : Type 0} (xs : List X) (n i : ℕ) (x : X)
    → get_or (xs ++ replicate n x) i x ≡ get_or xs i x
get_or-more_default xs n i x =
    let len = length-replicate n x in
    grind (arith, get_or_append_left, get_or-append_right, get_or-replicate, get_or_past)

-- a pixel of a row that was grown
pub grown_pixel : (columns : ℕ) (row : RowState) (column : ℕ)
    → get_or (reached_to columns row).pixels column row.background
    ≡ get_or row.pixels column row.background
grown_pixel columns row column =
    get_or-more_default row.pixels (columns - length row.pixels) column row.background
