-- The six rows of a band in one buffer of pixels: what a run, sixels of one column and a greater
-- width do to a pixel.
use Rattle.std.proofs.Common.{◌≡◌, ℕ, ◌+◌, ◌*◌, ◌<◌, ◌≤◌, Bool, true, false, List, ◌++◌, length}
use Rattle.std.proofs.Common.{get_or, take, drop, replicate, refl, ap, ◌∙◌, length-take}
use Rattle.std.proofs.{Common.{arith, inl, inr}, lemmas.Bool.{cases_Bool, eqb-true}}
use Rattle.std.proofs.{lemmas.Nat.row_fits, lemmas.List.{get_or_append_left, get_or-append_right}}
use Rattle.std.proofs.{lemmas.List.{get_or_past, get_or-set_same, get_or-set_other}, Math.ListN.set}
use Rattle.std.proofs.lemmas.List.{length-set}
use Rattle.std.proofs.{lemmas.Bool.Decides.nat_tests, lemmas.Grind.common_steps}
use Rattle.std.specs.Prelude.{nat_le, nat_lt, ◌==◌, ◌&&◌, ◌||◌, if◌then◌else◌}
use Rattle.sixel_canvas.proofs.RowPixels.{get_or-more_default, parts}
use Rattle.sixel_base.specs.Picture.{covers, is_set, is_struck}
use Rattle.sixel_canvas.specs.inside.Band.{filled, stored}

-- a place lies between two columns of a row just where its row is that one, and its column is
-- between them
pub within_row : (wide from to bit column k : ℕ) → column < wide → from ≤ to → to ≤ wide →
    (nat_le (bit * wide + from) (k * wide + column) && nat_lt (k * wide + column) (bit * wide + to))
    ≡ (k == bit && (nat_le from column && nat_lt column to))
within_row wide from to bit column k inside order within = grind (arith, nat_tests, row_fits)

-- what was drawn on the rows above one, and then on it
pub more_rows : {X : Type 0} (hit above up here covered : Bool) (x y z color : X) →
    z ≡ (if hit then color else y) → hit ≡ (here && covered) →
    y ≡ (if above && covered then color else x) → up ≡ (above || here) →
    z ≡ (if up && covered then color else x)
more_rows hit above up here covered x y z color at is before all = grind (arith, nat_tests)

if_here : (here between set : Bool) → (here ≡ true → set ≡ true) →
    (here && between) ≡ (here && (between && set))
if_here here between set is = grind (arith, nat_tests)

pub struck_here : (bits bit k : ℕ) → k < 6 → is_set bits bit ≡ true → (k == bit) ≡ true →
    is_struck 0 bits k ≡ true
struck_here bits bit k six hit here = grind (arith, hit, eqb-true k bit here)

-- one row of a sixel more
pub struck_more :
    (px mid new : List (List ℕ)) (wide from to bits bit : ℕ) (color d : List ℕ) (column k : ℕ) →
    column < wide → k < 6 → from ≤ to → to ≤ wide → is_set bits bit ≡ true →
    stored mid wide d column k
    ≡ (if nat_lt k bit && covers from to 0 bits column k then color else stored px wide d column k)
    →
    ((i : ℕ)
    → get_or new i d ≡ filled (bit * wide + from) (bit * wide + to) color i (get_or mid i d)) →
    stored new wide d column k
    ≡ (if nat_lt k (bit + 1) && covers from to 0 bits column k then color
    else stored px wide d column k)
struck_more px mid new wide from to bits bit color d column k inside six order within hit before
    change = grind (arith, nat_tests, within_row, more_rows, if_here, struck_here)

set_filled : (xs : List (List ℕ)) (place to i : ℕ) (color d : List ℕ) → place < length xs →
    to ≡ place + 1 →
    get_or (set xs place color) i d ≡ filled place to color i (get_or xs i d)
set_filled xs place to i color d inside next =
    grind (arith, nat_tests, get_or-set_same, get_or-set_other)

-- the rows so far and the first one, with the row of the next bit, which is set
next_set : (bits bit first column at k : ℕ) →
    (((nat_lt k bit || k == first) || k == bit) && covers at (at + 1) 0 bits column k)
    ≡ ((nat_lt k (bit + 1) || k == first) && covers at (at + 1) 0 bits column k)
next_set bits bit first column at k = grind (arith, nat_tests)

-- and with the first row again, where the next bit is not set
next_unset : (bits bit first column at k : ℕ) → is_set bits bit ≡ false →
    (((nat_lt k bit || k == first) || k == first) && covers at (at + 1) 0 bits column k)
    ≡ ((nat_lt k (bit + 1) || k == first) && covers at (at + 1) 0 bits column k)
next_unset bits bit first column at k miss = grind (arith, nat_tests)

-- a set pixel of a column, drawn in this row
set_row :
    (px mid : List (List ℕ)) (wide at bits row : ℕ) (color d : List ℕ) (column k : ℕ)
    (above : Bool) → length mid ≡ 6 * wide → column < wide → k < 6 → at < wide → row < 6 →
    is_set bits row ≡ true →
    stored mid wide d column k
    ≡ (if above && covers at (at + 1) 0 bits column k then color else stored px wide d column k) →
    stored (set mid (row * wide + at) color) wide d column k
    ≡ (if (above || k == row) && covers at (at + 1) 0 bits column k then color
    else stored px wide d column k)
set_row px mid wide at bits row color d column k above fits inside six within low hit before =
    more_rows _ above _ (k == row) (covers at (at + 1) 0 bits column k) _ _ _ color
    (set_filled mid (row * wide + at) (row * wide + (at + 1)) (k * wide + column) color d
    (grind (arith, fits, within)) (omega arith))
    (within_row wide at (at + 1) row column k inside (omega arith) (omega (arith, within))
    ∙ if_here (k == row) (nat_le at column && nat_lt column (at + 1)) (is_struck 0 bits k)
    (struck_here bits row k six hit))
    before refl

-- the first of them, above which no row has a set pixel
pub set_first :
    (px : List (List ℕ)) (wide at bits first : ℕ) (color d : List ℕ) (column k : ℕ) →
    length px ≡ 6 * wide → column < wide → k < 6 → at < wide → first < 6 →
    is_set bits first ≡ true → ((j : ℕ) → j < first → is_set bits j ≡ false) →
    stored (set px (first * wide + at) color) wide d column k
    ≡ (if (nat_lt k 1 || k == first) && covers at (at + 1) 0 bits column k then color
    else stored px wide d column k)
set_first px wide at bits first color d column k fits inside six within low hit none =
    grind (arith, common_steps, set_row)

-- and one of the next row, or the first one again
pub set_more :
    (px mid : List (List ℕ)) (wide at bits bit first place : ℕ) (color d : List ℕ) (column k : ℕ) →
    length mid ≡ 6 * wide → column < wide → k < 6 → at < wide → bit < 6 → first < 6 →
    is_set bits first ≡ true → (is_set bits bit ≡ true → place ≡ bit * wide + at) →
    (is_set bits bit ≡ false → place ≡ first * wide + at) →
    stored mid wide d column k
    ≡ (if (nat_lt k bit || k == first) && covers at (at + 1) 0 bits column k then color
    else stored px wide d column k) →
    stored (set mid place color) wide d column k
    ≡ (if (nat_lt k (bit + 1) || k == first) && covers at (at + 1) 0 bits column k then color
    else stored px wide d column k)
set_more px mid wide at bits bit first place color d column k fits inside six within low_bit low hit
    here other before =
    let above = nat_lt k bit || k == first in
    elim (cases_Bool (is_set bits bit)) [
      | inl is ↦
          rw (here is)
          (set_row px mid wide at bits bit color d column k above fits inside six within low_bit is
          before
          ∙ ap (λ drawn. if drawn then color else stored px wide d column k)
          (next_set bits bit first column at k))
      | inr is ↦
          rw (other is)
          (set_row px mid wide at bits first color d column k above fits inside six within low hit
          before
          ∙ ap (λ drawn. if drawn then color else stored px wide d column k)
          (next_unset bits bit first column at k is))
    ]

-- one row more was copied, and filled up with background
pub copied_more :
    (px new part mid next : List (List ℕ)) (held wide row extra : ℕ) (background : List ℕ) →
    held ≤ wide → length new ≡ row * wide → mid ≡ new ++ part →
    part ≡ take held (drop (row * held) px) →
    next ≡ take (row * wide + wide) mid ++ replicate extra background →
    ((column k : ℕ) → column < wide → k < row
    → stored new wide background column k
    ≡ (if nat_lt column held then stored px held background column k else background)) →
    (column k : ℕ) → column < wide → k < row + 1 →
    stored next wide background column k
    ≡ (if nat_lt column held then stored px held background column k else background)
copied_more px new part mid next held wide row extra background more long joined cut filled before
    column k inside up = grind (arith, parts, row_fits, get_or-more_default)

-- what a loop over the rows needs
pub ruleset row_steps = (nat_tests, length-set, set_first, set_more)
