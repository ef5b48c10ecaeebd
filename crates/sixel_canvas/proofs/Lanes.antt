-- Lanes: what holds of each of four, and pixels that are chosen among two as numbers.
use Rattle.std.proofs.Common.{◌≡◌, ℕ, ◌+◌, ◌-◌, ◌/◌, ◌^◌, ◌%◌, ◌<◌, Bool, cond, List, [], ◌∷◌, ◌++◌}
use Rattle.std.proofs.Common.{length, map, get_or, bit_and, refl, subst, arith}
use Rattle.std.specs.{Prelude.{◌==◌, if◌then◌else◌}}
use Rattle.std.proofs.lemmas.{Bool.Decides.nat_tests, Grind.{and_numeral, get_or-set_at}}
use Rattle.std.proofs.lemmas.Grind.{common_steps}
use Rattle.std.proofs.lemmas.List.{get_or_append_left, get_or-set_other, length-set}
use lib.Lanes.{sel_l, top, zip2}
use Rattle.sixel_base.specs.Picture.{is_set}

-- what holds of each of four
pub each_of_four : (P : ℕ → Type 0) → P 0 → P 1 → P 2 → P 3 → (k : ℕ) → k < 4 → P k
each_of_four P a b c d k less = grind (arith, nat_tests)

-- four lanes of a list, as `extract` reads them in the list joined to itself
abbrev pub four_lanes : List ℕ → ℕ → List ℕ
four_lanes xs at =
    get_or (xs ++ xs) at 0 ∷ get_or (xs ++ xs) (at + 1) 0 ∷ get_or (xs ++ xs) (at + 2) 0
    ∷ get_or (xs ++ xs) (at + 3) 0 ∷ []

-- a lane of such a list
pub get_or-twice : (xs : List ℕ) (j : ℕ) → j < length xs → get_or (xs ++ xs) j 0 ≡ get_or xs j 0
get_or-twice xs j inside = get_or_append_left xs xs 0 j inside

-- a lane where a mask is set, and 0 elsewhere
pub lane_is : (hit : Bool) (x : ℕ) → cond (top 7 (cond hit 255 0)) x 0 ≡ (if hit then x else 0)
lane_is hit x = grind (arith, nat_tests)

-- one of two numbers by a mask
by_mask : (hit : Bool) (new old : ℕ) →
    cond (top 31 (cond hit 4294967295 0)) new old ≡ (if hit then new else old)
by_mask hit new old = grind (arith, nat_tests)

-- a lane's number where its sixel has the bit
chosen_lane : (sixel bit new old : ℕ) →
    cond (top 31 (cond (bit_and (sixel / 2 ^ bit) 1 == 1) 4294967295 0)) new old
    ≡ (if is_set sixel bit then new else old)
chosen_lane sixel bit new old =
    rw (and_numeral (sixel / 2 ^ bit) 0 refl) (by_mask (sixel / 2 ^ bit % 2 == 1) new old)

-- a list of four
four_list : (xs : List ℕ) → length xs ≡ 4 →
    (get_or xs 0 0 ∷ get_or xs 1 0 ∷ get_or xs 2 0 ∷ get_or xs 3 0 ∷ []) ≡ xs
four_list xs four = grind (arith, common_steps, nat_tests)

-- four lanes, of which those whose sixel has the bit are a new number
abbrev chosen : List ℕ → ℕ → ℕ → List ℕ → List ℕ
chosen sixels bit new old =
    sel_l (map (top 31) (zip2 (λ a b. cond (a == b) 4294967295 0)
    (zip2 bit_and (zip2 (λ a b. a / 2 ^ b) (map (λ x. x) sixels) (bit ∷ bit ∷ bit ∷ bit ∷ []))
    (1 ∷ 1 ∷ 1 ∷ 1 ∷ [])) (1 ∷ 1 ∷ 1 ∷ 1 ∷ [])))
    (new ∷ new ∷ new ∷ new ∷ []) old

pub get_or-chosen : (sixels old : List ℕ) (bit new : ℕ) → length sixels ≡ 4 → length old ≡ 4 →
    (k : ℕ) → k < 4 →
    get_or (chosen sixels bit new old) k 0
    ≡ (if is_set (get_or sixels k 0) bit then new else get_or old k 0)
get_or-chosen sixels old bit new four same =
    subst (λ (xs : List ℕ). (k : ℕ) → k < 4 → get_or (chosen xs bit new old) k 0
    ≡ (if is_set (get_or xs k 0) bit then new else get_or old k 0)) (four_list sixels four)
    (subst (λ (ys : List ℕ). (k : ℕ) → k < 4 → get_or (chosen (get_or sixels 0 0
    ∷ get_or sixels 1 0 ∷ get_or sixels 2 0 ∷ get_or sixels 3 0 ∷ []) bit new ys) k 0
    ≡ (if is_set (get_or (get_or sixels 0 0 ∷ get_or sixels 1 0 ∷ get_or sixels 2 0
    ∷ get_or sixels 3 0 ∷ []) k 0) bit then new else get_or ys k 0)) (four_list old same)
    (each_of_four _ (chosen_lane (get_or sixels 0 0) bit new (get_or old 0 0))
    (chosen_lane (get_or sixels 1 0) bit new (get_or old 1 0))
    (chosen_lane (get_or sixels 2 0) bit new (get_or old 2 0))
    (chosen_lane (get_or sixels 3 0) bit new (get_or old 3 0))))

-- pixels that are set one after another
pub ruleset sets = (nat_tests, length-set, get_or-set_at, get_or-set_other)
