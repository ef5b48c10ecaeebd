-- A part of a row of a band that is drawn by a copy of the same part of a row above it.
use Rattle.std.proofs.Common.{◌≡◌, ℕ, ◌+◌, ◌-◌, ◌*◌, ◌<◌, ◌≤◌, List, [], get_or, true, arith}
use Rattle.std.{proofs.lemmas.Bool.Decides.nat_tests, specs.Prelude.{nat_lt, ◌&&◌, if◌then◌else◌}}
use Rattle.sixel_base.specs.Picture.{covers, is_set}
use Rattle.sixel_canvas.specs.inside.Band.{stored}

-- a row that begins before another one is above it
pub row_above : (wide from bit first : ℕ) → first * wide + from < bit * wide + from → first < bit
row_above wide from bit first before = grind (arith, nat_tests)

-- its pixels have the color
pub row_colored :
    (px mid : List (List ℕ)) (wide from to bits bit first : ℕ) (color : List ℕ) (i : ℕ)
    → to ≤ wide → first < bit → first < 6 → is_set bits first ≡ true
    → ((column : ℕ) → column < wide
    → stored mid wide [] column first
    ≡ (if nat_lt first bit && covers from to 0 bits column first then color
    else stored px wide [] column first))
    → first * wide + from ≤ i → i < first * wide + to → get_or mid i [] ≡ color
row_colored px mid wide from to bits bit first color i within lower six set drawn low high =
    let column = i - first * wide in
    let place : first * wide + column ≡ i = omega arith in
    grind (arith, nat_tests)
