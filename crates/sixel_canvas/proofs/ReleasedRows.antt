-- What a canvas shows once rows were released: the bytes of each released row have its pixels.
use Rattle.std.proofs.Common.{◌≡◌, ℕ, ◌+◌, ◌-◌, ◌*◌, ◌≤◌, List, [], ap, length, drop, get_or, inl}
use Rattle.std.proofs.{Common.{inr, length-take, length-drop, arith}, Math.Nat.mul-le-mul_right}
use Rattle.std.proofs.{lemmas.Bool.{cases_lt, lt-ltb, le-ltb}, lemmas.Bool.Decides.nat_tests}
use Rattle.std.proofs.{lemmas.Grind.common_steps, lemmas.Nat.row_fits}
use Rattle.std.specs.Prelude.{min, nat_lt, if◌then◌else◌}
use Rattle.sixel_canvas.specs.{Layout.stored_pixel, inside.ReleasedRows.{row_bytes, row_pixel}}
use Rattle.sixel_canvas.specs.inside.RowsState.{RowsState, AreRows, final}
use Rattle.sixel_canvas.proofs.RowBytes.{pixel_part, products}

-- the bytes from row `n` on, below `free` others
pub dropped : (bytes : List ℕ) (width free n : ℕ) →
    drop (4 * ((free + n) * width)) bytes ≡ drop (4 * (n * width)) (drop (4 * (free * width)) bytes)
dropped bytes width free n = grind (arith, common_steps)

-- the bytes of rows below `free` others, without the first `n` of them
pub removed : (bytes : List ℕ) (width rows free n : ℕ) → n ≤ rows →
    4 * (free * width) ≤ length bytes →
    length (drop (4 * (free * width)) bytes) ≡ 4 * (rows * width) →
    (4 * ((free + n) * width) ≤ length bytes)
    × (length (drop (4 * ((free + n) * width)) bytes) ≡ 4 * ((rows - n) * width))
removed bytes width rows free n few above len =
    grind (arith, nat_tests, length-drop, mul-le-mul_right, products)

-- the pixels of the rows without the first `count` of them
pub final_removed : (bytes new background : List ℕ) (width rows n count column row : ℕ)
    → n ≡ min count rows → new ≡ drop (4 * (n * width)) bytes
    → stored_pixel new width (rows - n) background column row
    ≡ stored_pixel bytes width rows background column (row + count)
final_removed bytes new background width rows n count column row least is =
    grind (arith, common_steps, nat_tests)

-- the memory for the rows that are left, and for those of the band
pub held_released : (top released count rows rows' width room room' : ℕ) → released + count ≤ top
    → rows' ≡ rows - count → 4 * ((top - released + 6) * width) ≤ room
    → room ≤ room' + 4 * ((rows - rows') * width)
    → 4 * ((top - (released + count) + 6) * width) ≤ room'
held_released top released count rows rows' width room room' above is held more =
    let gone : rows - rows' ≤ count = omega (arith, is) in
    let all : top - released + 6 ≡ top - (released + count) + 6 + count = omega (arith, above) in
    omega (arith, held, more, mul-le-mul_right width gone, ap (λ n. n * width) all)

-- the bytes of a row have its pixels
pub released_row : (rows : RowsState) → AreRows rows → (column row : ℕ) →
    row_pixel (row_bytes rows row) rows.background column ≡ final rows column row
released_row rows are column row =
    grind (arith, nat_tests, length-take, length-drop, row_fits, pixel_part)

-- the rows above the band once some more were released
pub above_released :
    (gone gone' : List (List ℕ)) (rows rows' : RowsState) (released released' count : ℕ) →
    AreRows rows → length gone ≡ released → released' ≡ released + count →
    rows'.background ≡ rows.background →
    ((row : ℕ)
    → get_or gone' row []
    ≡ (if nat_lt row (length gone) then get_or gone row [] else if nat_lt row (length gone + count)
    then row_bytes rows (row - length gone) else [])) →
    ((column row : ℕ) → final rows' column row ≡ final rows column (row + count)) →
    (column row : ℕ) →
    (if nat_lt row released' then row_pixel (get_or gone' row []) rows'.background column
    else final rows' column (row - released'))
    ≡ (if nat_lt row released then row_pixel (get_or gone row []) rows.background column
    else final rows column (row - released))
above_released gone gone' rows rows' released released' count are len more same logged kept column
    row =
    elim (cases_lt row released) [
      | inl first ↦ grind (arith, lt-ltb)
      | inr later ↦ grind (arith, le-ltb, released_row)
    ]

-- the rows above the band once the band was appended
pub above_appended :
    (released top : ℕ) (gone old new : List ℕ) (cell : ℕ → List ℕ) (row : ℕ) → released ≤ top →
    new
    ≡ (if nat_lt (row - released) (top - released) then old
    else cell (row - released - (top - released))) →
    (if nat_lt row released then gone else new)
    ≡ (if nat_lt row top then if nat_lt row released then gone else old else cell (row - top))
above_appended released top gone old new cell row le is = grind (arith, nat_tests)

-- the rows above a band that nothing was drawn on
pub above_clear :
    (rows : RowsState) (released top : ℕ) (gone : List ℕ) (cell : ℕ → List ℕ) (column row : ℕ) →
    released + rows.rows ≤ top → ((k : ℕ) → cell k ≡ rows.background) →
    (if nat_lt row released then gone else final rows column (row - released))
    ≡ (if nat_lt row top then if nat_lt row released then gone
    else final rows column (row - released) else cell (row - top))
above_clear rows released top gone cell column row above clear = grind (arith, nat_tests)

-- a row above the band that is stored
pub above_stored :
    (rows : RowsState) (released first : ℕ) (gone : List ℕ) (column row : ℕ) → released ≤ first →
    (if nat_lt (first + row) released then gone else final rows column (first + row - released))
    ≡ final rows column (first - released + row)
above_stored rows released first gone column row le = grind (arith, nat_tests)

-- a row that is left, counted from the first one that is
pub row_left :
    (rows : RowsState) (released : ℕ) (gone : List ℕ) (column row : ℕ) →
    (if nat_lt (released + row) released then gone
    else final rows column (released + row - released))
    ≡ final rows column row
row_left rows released gone column row = grind (arith, nat_tests)

-- which rows are left
pub ruleset rows_left = (nat_tests, above_stored, row_left)
