-- The serpentine order of visits: it is its own inverse, and stays within whole rows.
use Rattle.std.{proofs.Common.{◌≡◌, ◌≢◌, ℕ, ◌+◌, ◌-◌, ◌*◌, ◌<◌, arith}, specs.Prelude.{◌%◌, ◌==◌}}
use Rattle.std.{proofs.lemmas.Bool.cases_Bool, proofs.lemmas.Bool.Decides.nat_tests}
use Rattle.std.proofs.lemmas.Nat.{div-add-mod', div-mul-add, mod-mul-add, mod_below}
use Rattle.sixel_palette.specs.Dithering.{column_of_step, serpentine}

-- a step's column lies in the row
pub column-lt : (width row step : ℕ) → step < width → column_of_step width row step < width
column-lt width row step l = grind (arith, nat_tests, step)

-- the step of a step's column is the step
pub column-column : (width row step : ℕ) → step < width
    → column_of_step width row (column_of_step width row step) ≡ step
column-column width row step l = grind (arith, nat_tests, step)

-- different steps have different columns
pub column-apart : (width row j step : ℕ) → j < width → step < width → j ≢ step
    → column_of_step width row j ≢ column_of_step width row step
column-apart width row j step lj ls apart = grind (arith, nat_tests)

-- the next row goes the other way
pub column-next_row : (width row step : ℕ) → step < width
    → column_of_step width (row + 1) step ≡ column_of_step width row (width - 1 - step)
column-next_row width row step l =
    grind (arith, nat_tests, cases_Bool (row % 2 == 0))

-- the pixel of a step of a row
pub serpentine-step : (width row step : ℕ) → step < width
    → serpentine width (row * width + step) ≡ row * width + column_of_step width row step
serpentine-step width row step l = grind (arith, nat_tests, div-mul-add, mod-mul-add)

-- the visit of a visit's pixel is the visit
pub serpentine-serpentine : (width n : ℕ) → 0 < width → serpentine width (serpentine width n) ≡ n
serpentine-serpentine width n some =
    grind (arith, nat_tests, mod_below, serpentine-step, column-lt, column-column, div-add-mod')

-- different visits have different pixels
pub serpentine-apart : (width k n : ℕ) → 0 < width → k ≢ n → serpentine width k ≢ serpentine width n
serpentine-apart width k n some apart = grind (arith, nat_tests, serpentine-serpentine)

-- the order stays within whole rows
pub serpentine-lt : (width count n : ℕ) → 0 < width → n < count * width
    → serpentine width n < count * width
serpentine-lt width count n some l = grind (arith, nat_tests)
