-- Which pixels of a band four or eight sixels of one column each cover.
use Rattle.std.proofs.Common.{◌≡◌, ℕ, ◌+◌, ◌*◌, ◌<◌, ◌≤◌, false, List, length, get_or, refl, ap}
use Rattle.std.proofs.{Common.{◌∙◌, arith}, lemmas.Bool.Decides.nat_tests}
use Rattle.std.specs.Prelude.{nat_le, nat_lt, ◌&&◌, if◌then◌else◌}
use Rattle.sixel_canvas.proofs.{BandRows.within_row, Lanes.{each_of_four, four_lanes, get_or-twice}}
use Rattle.sixel_canvas.specs.{Drawn.covers_eight, inside.Band.{covers_four, mixed_at, stored}}

-- one row of four sixels more
pub mixed_more :
    (px mid new : List (List ℕ)) (wide from bit : ℕ) (sixels color d : List ℕ) (column k : ℕ) →
    column < wide → k < 6 → from + 4 ≤ wide →
    stored mid wide d column k
    ≡ (if nat_lt k bit && covers_four from sixels column k then color
    else stored px wide d column k) →
    ((i : ℕ) → get_or new i d ≡ mixed_at (bit * wide + from) sixels bit color i (get_or mid i d)) →
    stored new wide d column k
    ≡ (if nat_lt k (bit + 1) && covers_four from sixels column k then color
    else stored px wide d column k)
mixed_more px mid new wide from bit sixels color d column k inside six within before change =
    let end : bit * wide + from + 4 ≡ bit * wide + (from + 4) = omega arith in
    let placed =
    ap (λ e. nat_le (bit * wide + from) (k * wide + column) && nat_lt (k * wide + column) e) end
    ∙ within_row wide from (from + 4) bit column k inside (omega arith) within in
    grind (arith, nat_tests)

-- four blank sixels cover nothing
pub blank_four : (from column k : ℕ) (sixels : List ℕ) →
    ((j : ℕ) → j < 4 → get_or sixels j 0 ≡ 0) → covers_four from sixels column k ≡ false
blank_four from column k sixels blank = grind (arith, nat_tests)

-- eight sixels cover what their first four and their last four do
halves_cover :
    (from column k : ℕ) (sixels first last : List ℕ) (color x y z : List ℕ) →
    ((j : ℕ) → j < 4 → get_or first j 0 ≡ get_or sixels j 0) →
    ((j : ℕ) → j < 4 → get_or last j 0 ≡ get_or sixels (4 + j) 0) →
    y ≡ (if covers_four from first column k then color else x) →
    z ≡ (if covers_four (from + 4) last column k then color else y) →
    z ≡ (if covers_eight from sixels 0 column k then color else x)
halves_cover from column k sixels first last color x y z start end before after =
    grind (arith, nat_tests)

module _ (from column k : ℕ) (sixels : List ℕ) (long : length sixels ≡ 8) where
  first_lanes : (j : ℕ) → j < 4 → get_or (four_lanes sixels 0) j 0 ≡ get_or sixels j 0
  first_lanes =
      each_of_four (λ j. get_or (four_lanes sixels 0) j 0 ≡ get_or sixels j 0)
      (get_or-twice sixels 0 (omega (arith, long))) (get_or-twice sixels 1 (omega (arith, long)))
      (get_or-twice sixels 2 (omega (arith, long))) (get_or-twice sixels 3 (omega (arith, long)))

  last_lanes : (j : ℕ) → j < 4 → get_or (four_lanes sixels 4) j 0 ≡ get_or sixels (4 + j) 0
  last_lanes =
      each_of_four (λ j. get_or (four_lanes sixels 4) j 0 ≡ get_or sixels (4 + j) 0)
      (get_or-twice sixels 4 (omega (arith, long))) (get_or-twice sixels 5 (omega (arith, long)))
      (get_or-twice sixels 6 (omega (arith, long))) (get_or-twice sixels 7 (omega (arith, long)))

  pub covers_halves : (color x y z : List ℕ) →
      y ≡ (if covers_four from (four_lanes sixels 0) column k then color else x) →
      z ≡ (if covers_four (from + 4) (four_lanes sixels 4) column k then color else y) →
      z ≡ (if covers_eight from sixels 0 column k then color else x)
  covers_halves color x y z before after =
      halves_cover from column k sixels (four_lanes sixels 0) (four_lanes sixels 4) color x y z
      first_lanes last_lanes before after

  -- or what their first four do, where the others are blank
  pub covers_first : (color x y : List ℕ) →
      ((j : ℕ) → j < 4 → get_or (four_lanes sixels 4) j 0 ≡ 0) →
      y ≡ (if covers_four from (four_lanes sixels 0) column k then color else x) →
      y ≡ (if covers_eight from sixels 0 column k then color else x)
  covers_first color x y blank before =
      covers_halves color x y y before
      (rw (blank_four (from + 4) column k (four_lanes sixels 4) blank) refl)
