-- What a band shows once its columns were filled with background, or a part of a row with a color,
-- and what its canvas shows then.
use Rattle.std.proofs.Common.{◌≡◌, ℕ, zero, suc, ◌+◌, ◌-◌, ◌*◌, ◌<◌, ◌≤◌, Bool, true, List}
use Rattle.std.proofs.{Common.{get_or, refl, arith}, lemmas.Bool.Decides.nat_tests}
use Rattle.std.specs.Prelude.{nat_le, nat_lt, ◌&&◌, ◌==◌, if◌then◌else◌}
use Rattle.sixel_base.specs.Picture.{covers, is_set, is_struck}
use Rattle.sixel_canvas.specs.inside.Band.{IsBand, band_state, cell, filled, stored}
use Rattle.sixel_canvas.proofs.BandRows.{within_row}

pub all_set : (k : ℕ) → k < 6 → is_set 63 k ≡ true
all_set zero six = refl
all_set (suc zero) six = refl
all_set (suc (suc zero)) six = refl
all_set (suc (suc (suc zero))) six = refl
all_set (suc (suc (suc (suc zero)))) six = refl
all_set (suc (suc (suc (suc (suc zero))))) six = refl
all_set (suc (suc (suc (suc (suc (suc k)))))) six = absurd (omega (arith, six))

-- what drawing on all rows needs
pub ruleset all_rows = (nat_tests, all_set)

-- a band whose columns up to its extent were drawn over in background shows nothing else
pub cleared : (background : List ℕ) (pixels new : List (List ℕ)) (cap extent : ℕ) →
    IsBand (band_state background pixels cap extent) →
    ((column k : ℕ) → column < cap → k < 6
    → stored new cap background column k
    ≡ (if covers 0 extent 0 63 column k then background else stored pixels cap background column k))
    →
    (column k : ℕ) → cell (band_state background new cap 0) column k ≡ background
cleared background pixels new cap extent is drawn column k = grind (arith, nat_tests, all_set)

turned : (a b c : Bool) → (c && (a && b)) ≡ (a && b && c)
turned a b c = grind (arith, nat_tests)

-- one row was filled between two columns
pub row_filled :
    (background : List ℕ) (pixels new : List (List ℕ)) (cap extent k from to : ℕ) (color : List ℕ) →
    k < 6 → from ≤ to → to ≤ cap →
    ((i : ℕ)
    → get_or new i background
    ≡ filled (k * cap + from) (k * cap + to) color i (get_or pixels i background)) →
    (column j : ℕ) →
    cell (band_state background new cap extent) column j
    ≡ (if nat_le from column && nat_lt column to && j == k then color
    else cell (band_state background pixels cap extent) column j)
row_filled background pixels new cap extent k from to color six order within change column j =
    grind (arith, nat_tests, within_row, turned)

-- what is drawn on the band is drawn on the canvas
pub canvas_over : (a b : Bool) (bits top row : ℕ) (above old new color : List ℕ) →
    new ≡ (if a && b && is_struck 0 bits (row - top) then color else old) →
    (if nat_lt row top then above else new)
    ≡ (if a && b && is_struck top bits row then color else (if nat_lt row top then above else old))
canvas_over a b bits top row above old new color is = grind (arith, nat_tests)
