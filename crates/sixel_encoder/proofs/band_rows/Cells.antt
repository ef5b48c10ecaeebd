-- The rows of a band: one dot more, one line more.
use Rattle.std.proofs.Common.{◌≡◌, ℕ, ◌+◌, ◌*◌, ◌<◌, Bool, true, List, length, set, arith}
use Rattle.std.proofs.lemmas.{Bool.Decides.nat_tests, List.{get_or-set_same, get_or-set_other}}
use Rattle.std.proofs.lemmas.{List.length-set, Nat.{mul-add-lt, same_from_place}}
use Rattle.std.proofs.Math.Nat.{mul_comm}
use Rattle.sixel_encoder.specs.inside.Grid.{cell, dot_at, AreRows, AreMarks}

-- a sixel's place is within the rows
pub place_inside : (rows : List ℕ) (used : List Bool) (width e x : ℕ) → AreRows rows used width
    → e < length used → x < width → e * width + x < length rows
place_inside rows used width e x are le lx = grind (arith, nat_tests, mul-add-lt, mul_comm)

-- a dot adds its weight to one sixel
pub cell-dot : (rows : List ℕ) (width entry column weight e x : ℕ)
    → entry * width + column < length rows → column < width → x < width
    → cell (set rows (entry * width + column) (cell rows width entry column + weight)) width e x
    ≡ cell rows width e x + dot_at weight entry column e x
cell-dot rows width entry column weight e x inside lc lx =
    let same = same_from_place e x entry column width lx lc in
    grind (arith, nat_tests, get_or-set_same, get_or-set_other)

-- a dot keeps the marks
pub AreMarks-dot : (rows : List ℕ) (used : List Bool) (width entry column weight : ℕ)
    → AreMarks rows used width → entry * width + column < length rows → entry < length used
    → column < width → 0 < weight
    → AreMarks (set rows (entry * width + column) (cell rows width entry column + weight))
    (set used entry true) width
AreMarks-dot rows used width entry column weight marks inside le lc lw =
    let count : length (set used entry true) ≡ length used = length-set used entry true in
    let new : (e x : ℕ) → x < width
    → cell (set rows (entry * width + column) (cell rows width entry column + weight)) width e x
    ≡ cell rows width e x + dot_at weight entry column e x = λ e x lx. grind (arith, cell-dot) in
    grind (arith, nat_tests, get_or-set_other, get_or-set_same)

pub AreMarks-same : {rows others : List ℕ} {used marks : List Bool} {width : ℕ} → rows ≡ others
    → used ≡ marks → AreMarks others marks width → AreMarks rows used width
AreMarks-same h e g = grind (arith, nat_tests)
