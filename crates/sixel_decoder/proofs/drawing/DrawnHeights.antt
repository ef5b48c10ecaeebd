-- The last row with a set pixel, of a history and of sixels after it.
use Rattle.std.proofs.Common.{◌≡◌, ℕ, zero, suc, ◌≤◌, List, [], ◌∷◌, length, get_or, take, refl}
use Rattle.std.proofs.{Common.arith, lemmas.Bool.Decides.nat_tests}
use Rattle.sixel_base.specs.{DrawnHeight.{drawn_height, lowered}, History.{Sixel, History}}
use Rattle.sixel_base.specs.Place.{down, height}
use Rattle.sixel_decoder.specs.inside.Runs.{most_rows}
use Rattle.sixel_decoder.proofs.{drawing.SetRows.lowered-again, drawing.SixelRuns.with_sixels}

-- sixels of one band
pub drawn_height-sixels : (h : History) (sixels : List ℕ) → drawn_height (with_sixels h sixels)
    ≡ lowered (drawn_height h) (down h) (most_rows sixels)
drawn_height-sixels h [] = refl
drawn_height-sixels h (bits ∷ more) =
    grind (arith, nat_tests, drawn_height-sixels (Sixel bits ∷ h) more, lowered-again)

none_set : (sixels : List ℕ) → ((k : ℕ) → get_or sixels k 0 ≡ 0) → most_rows sixels ≡ 0
none_set [] blank = refl
none_set (bits ∷ more) blank = rw (blank 0, none_set more (λ k. blank (suc k))) refl

take_set : (n : ℕ) (sixels : List ℕ) → ((k : ℕ) → n ≤ k → get_or sixels k 0 ≡ 0)
    → most_rows sixels ≡ most_rows (take n sixels)
take_set zero sixels blank = none_set sixels (λ k. blank k (omega arith))
take_set (suc n) [] blank = refl
take_set (suc n) (bits ∷ more) blank =
    rw (take_set n more (λ k past. blank (suc k) (omega arith))) refl

-- sixels of which only the first ones are not blank
pub most_rows-first : (sixels eight : List ℕ) → take (length sixels) eight ≡ sixels
    → ((k : ℕ) → length sixels ≤ k → get_or eight k 0 ≡ 0) → most_rows eight ≡ most_rows sixels
most_rows-first sixels eight first blank = grind (arith, nat_tests, take_set)

-- no pixel is set below the image
pub drawn_within : (h : History) → drawn_height h ≤ height h
drawn_within [] = omega arith
drawn_within (token ∷ h) = grind (arith, nat_tests, drawn_within h)
