-- How far the rows of an image are reached, and its sizes.
use Rattle.std.proofs.Common.{◌≡◌, ℕ, suc, zero, ◌*◌, ◌≤◌, Bool, nat_lt, List, [], ◌∷◌, Option}
use Rattle.std.{proofs.Common.{None, refl, arith}, specs.Option.option_or, proofs.Math.Nat.mul-suc}
use Rattle.std.{proofs.lemmas.Nat.mul-le, proofs.lemmas.Bool.Decides.nat_tests}
use Rattle.sixel_base.{proofs.ToleratedTokens.effective-same, specs.Fault.Fault}
use Rattle.sixel_base.{specs.History.History, specs.Limits.{Limit, side_limit}}
use Rattle.sixel_base.specs.PaintedArea.{payload_painted_area, row_extent, painted_area}
use Rattle.sixel_base.specs.Payload.{cropped_height, extent_fault, first_fault, payload_area}
use Rattle.sixel_base.{specs.Picture.total, specs.Place.{height, raster_height, width}}

-- no sixel covers a row from the height on
pub row_extent-past : (limit : Limit) (h : History) (row : ℕ) → height h ≤ row
    → row_extent limit h row ≡ 0
row_extent-past limit [] row past = refl
row_extent-past limit (token ∷ h) row past = grind (arith, nat_tests, row_extent-past limit h row)

-- no row is reached beyond the width
row_extent-most : (limit : Limit) (h : History) (row : ℕ) → row_extent limit h row ≤ width h
row_extent-most limit [] row = omega arith
row_extent-most limit (token ∷ h) row = grind (arith, nat_tests, row_extent-most limit h row)

-- numbers up to a bound
total-most : (f : ℕ → ℕ) (bound n : ℕ) → ((k : ℕ) → f k ≤ bound) → total f n ≤ bound * n
unfolding total
total-most f bound zero most = omega arith
total-most f bound (suc n) most = rw mul-suc (omega (arith, total-most f bound n most, most n))

-- the reached area is at most the picture's
painted_area-most : (limit : Limit) (h : History) → painted_area limit h ≤ width h * height h
painted_area-most limit h = grind (arith, nat_tests, total-most, row_extent-most)

-- ---- the size of a picture

-- no first of two faults means that neither is there
pub both_none : (a b : Option Fault) → option_or a b ≡ None → (a ≡ None) × (b ≡ None)
both_none a b is = grind (arith, nat_tests)

-- an extent without a fault has its sides within theirs
extent-fits : (limit : Limit) (right lower : ℕ) (h : History)
    → extent_fault limit right lower h ≡ None → (right ≤ side_limit) × (lower ≤ side_limit)
extent-fits limit right lower h is = (grind (arith, nat_tests), grind (arith, nat_tests))

-- so have tokens without a fault
pub sides-fit : (limit : Limit) (h : History) → first_fault limit h ≡ None
    → (width h ≤ side_limit) × (height h ≤ side_limit)
sides-fit limit [] is = (omega arith, omega arith)
sides-fit limit (token ∷ h) is = grind (arith, nat_tests, sides-fit limit h, both_none, extent-fits)

-- raster attributes name no height above the extent's
raster_height-most : (h : History) → raster_height h ≤ height h
raster_height-most [] = omega arith
raster_height-most (token ∷ h) = grind (arith, nat_tests, raster_height-most h)

-- so an image is at most as high as the extent, and inside a clip as high as that inside the clip
pub cropped_height-most : (crop : Bool) (h : History) → cropped_height crop h ≤ height h
cropped_height-most crop h = grind (arith, nat_tests, nat_lt, raster_height-most)

-- those of a payload reach no more than its picture has
pub settled-area : (limit : Limit) (bytes : List ℕ)
    → payload_painted_area limit bytes ≤ payload_area limit bytes
settled-area limit bytes = grind (arith, nat_tests, painted_area-most, effective-same, mul-le)
