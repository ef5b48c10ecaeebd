-- Eight lanes: the smaller of two numbers, a choice by the same comparison, the greatest of all.
use Rattle.std.proofs.Common.{◌≡◌, ◌⊎◌, ℕ, ◌+◌, ◌-◌, ◌*◌, ◌%◌, ◌<◌, ◌≤◌, max, Bool, true, false}
use Rattle.std.proofs.Common.{cond, nat_lt, w32, arith, List, [], ◌∷◌, ◌++◌, length, get_or, map}
use Rattle.std.proofs.{Common.{ap, sym, ◌∙◌, inl, inr}, lemmas.Bool.{cases_Bool, cases_lt}}
use Rattle.std.proofs.{lemmas.Bool.Decides.nat_tests, lemmas.List.{get_or-map, length-map}}
use Rattle.std.proofs.lemmas.Simd.{length-zip2, get_or-zip2, Each1-zip2, Each2-all, length-sel_l}
use Rattle.std.proofs.lemmas.Simd.{get_or-sel_l, tops_compared, get_or-put_chunk_below}
use Rattle.std.proofs.lemmas.Simd.{get_or-put_chunk_at, get_or-put_chunk_above}
use lib.Lanes.{Each1, put_chunk, sel_l, top, zip2}
use Rattle.sixel_palette.specs.declared.palette.nearest_entry.NearestEntry.{NearestEntry}
use Rattle.sixel_palette.specs.{Palette.distance, inside.Nearest.{IsNearestEntry, nearest_at}}
use Rattle.sixel_palette.specs.inside.Buckets.{IsGreatestIn}
use Rattle.sixel_palette.proofs.nearest_entries.NearestEntry.{near_taken, near_kept}

-- all ones where the first number is smaller
abbrev pub smaller : ℕ → ℕ → ℕ
smaller a b = cond (nat_lt a b) 4294967295 0

-- each lane of a mask is one of two numbers
pub mask_each : (P : ℕ → Type 0) (test : ℕ → ℕ → Bool) (xs ys : List ℕ) → P 4294967295 → P 0
    → Each1 P (zip2 (λ a b. cond (test a b) 4294967295 0) xs ys)
mask_each h test xs ys on off = grind (arith, nat_tests, Each1-zip2, Each2-all, cases_Bool)

-- the lanes that a mask chooses
pub length-chosen : (ms : List Bool) (xs ys : List ℕ) → length ms ≡ 8 → length xs ≡ 8
    → length ys ≡ 8 → length (sel_l ms xs ys) ≡ 8
length-chosen ms xs ys m x y = length-sel_l ms xs ys (m ∙ sym x) (m ∙ sym y) ∙ m

chosen_at : (ms : List Bool) (xs ys : List ℕ) (j : ℕ) (test : Bool) → length ms ≡ 8
    → length xs ≡ 8 → length ys ≡ 8 → j < 8 → get_or ms j false ≡ test
    → get_or (sel_l ms xs ys) j 0 ≡ cond test (get_or xs j 0) (get_or ys j 0)
chosen_at ms xs ys j test m x y l is = grind (arith, nat_tests, get_or-sel_l)

-- the mask of the smaller lanes
pub length-smaller : (ds ss : List ℕ) → length ds ≡ 8 → length ss ≡ 8
    → length (map (top 31) (zip2 smaller ds ss)) ≡ 8
length-smaller ds ss d s = grind (arith, nat_tests, length-map, length-zip2)

smaller_at : (ds ss : List ℕ) (j : ℕ) → length ds ≡ 8 → length ss ≡ 8 → j < 8
    → get_or (map (top 31) (zip2 smaller ds ss)) j false
    ≡ nat_lt (get_or ds j 0) (get_or ss j 0)
smaller_at ds ss j d s l =
    ap (λ ms. get_or ms j false) (tops_compared w32 nat_lt ds ss)
    ∙ get_or-zip2 nat_lt ds ss j 0 0 false (omega (arith, l, d)) (omega (arith, l, s))

-- the smaller lanes
pub least_at : (ds ss : List ℕ) (j : ℕ) → length ds ≡ 8 → length ss ≡ 8 → j < 8
    → get_or (sel_l (map (top 31) (zip2 smaller ds ss)) ds ss) j 0
    ≡ cond (nat_lt (get_or ds j 0) (get_or ss j 0)) (get_or ds j 0) (get_or ss j 0)
least_at ds ss j d s l = grind (arith, nat_tests, chosen_at, nat_lt, length-smaller, smaller_at)

-- the same mask, compared with 0 and made of narrower lanes
pub length-narrow : (f : ℕ → ℕ) (g : ℕ → ℕ → ℕ) (ds ss zs : List ℕ) → length ds ≡ 8
    → length ss ≡ 8 → length zs ≡ 8
    → length (map (top 7) (map f (zip2 g (zip2 smaller ds ss) zs))) ≡ 8
length-narrow f g ds ss zs d s z = grind (arith, nat_tests, length-zip2, length-map)

narrow_at : (f : ℕ → ℕ) (g : ℕ → ℕ → ℕ) (ds ss zs : List ℕ) (j : ℕ) → length ds ≡ 8
    → length ss ≡ 8 → length zs ≡ 8 → get_or zs j 0 ≡ 0 → top 7 (f (g 4294967295 0)) ≡ true
    → top 7 (f (g 0 0)) ≡ false → j < 8
    → get_or (map (top 7) (map f (zip2 g (zip2 smaller ds ss) zs))) j false
    ≡ nat_lt (get_or ds j 0) (get_or ss j 0)
narrow_at f g ds ss zs j d s z zero on off l =
    let first = length-zip2 smaller ds ss (d ∙ sym s) ∙ d in
    let second = length-zip2 g (zip2 smaller ds ss) zs (first ∙ sym z) ∙ first in
    let third = length-map (zip2 g (zip2 smaller ds ss) zs) f ∙ second in
    let one = get_or-map (top 7) (map f (zip2 g (zip2 smaller ds ss) zs)) j 0 false (omega arith) in
    let two = get_or-map f (zip2 g (zip2 smaller ds ss) zs) j 0 0 (omega arith) in
    let three = get_or-zip2 g (zip2 smaller ds ss) zs j 0 0 0 (omega arith) (omega arith) in
    let four = get_or-zip2 smaller ds ss j 0 0 0 (omega arith) (omega arith) in
    rw (one, two, three, four, zero) (elim (cases_Bool (nat_lt (get_or ds j 0) (get_or ss j 0))) [
      | inl less ↦ rw less on
      | inr more ↦ rw more off
    ])

-- the lanes that it chooses
pub narrow_chosen : (f : ℕ → ℕ) (g : ℕ → ℕ → ℕ) (ds ss zs xs ys : List ℕ) (j : ℕ)
    → length ds ≡ 8 → length ss ≡ 8 → length zs ≡ 8 → length xs ≡ 8 → length ys ≡ 8
    → get_or zs j 0 ≡ 0 → top 7 (f (g 4294967295 0)) ≡ true → top 7 (f (g 0 0)) ≡ false → j < 8
    → get_or (sel_l (map (top 7) (map f (zip2 g (zip2 smaller ds ss) zs))) xs ys) j 0
    ≡ cond (nat_lt (get_or ds j 0) (get_or ss j 0)) (get_or xs j 0) (get_or ys j 0)
narrow_chosen f g ds ss zs xs ys j d s z x y h on off l =
    grind (arith, nat_tests, chosen_at, nat_lt, length-narrow, narrow_at)

-- eight numbers that are stored
pub stored_outside : (xs ys : List ℕ) (at k : ℕ) → length ys ≡ 8 → (k < at) ⊎ (at + 8 ≤ k)
    → get_or (put_chunk at xs ys) k 0 ≡ get_or xs k 0
stored_outside xs ys at k y apart =
    grind (arith, nat_tests, get_or-put_chunk_below, get_or-put_chunk_above)

pub stored_at : (xs ys : List ℕ) (at j : ℕ) → length ys ≡ 8 → at + 8 ≤ length xs → j < 8
    → get_or (put_chunk at xs ys) (at + j) 0 ≡ get_or ys j 0
stored_at xs ys at j y within l = grind (arith, nat_tests, get_or-put_chunk_at)

pub stored_here : (xs ys : List ℕ) (at k : ℕ) → length ys ≡ 8 → at + 8 ≤ length xs → at ≤ k
    → k < at + 8 → get_or (put_chunk at xs ys) k 0 ≡ get_or ys (k - at) 0
stored_here xs ys at k y within from to = grind (arith, nat_tests, stored_at)

-- the nearest entry after one more at this distance
near_chosen : (entries : List (List ℕ)) (p c : List ℕ) (d s i index : ℕ)
    → length entries ≡ index → distance p c ≡ d
    → IsNearestEntry entries c (record { squared = s; index = i })
    → IsNearestEntry (entries ++ p ∷ []) c
    (record { squared = cond (nat_lt d s) d s; index = cond (nat_lt d s) index i })
near_chosen entries p c d s i index at far near =
    let old : NearestEntry = record { squared = s; index = i } in
    let taken = near_taken entries p c d index old in
    let kept = near_kept entries p c old in
    grind (arith, nat_tests)

-- so it is of two lists with these numbers
pub near_stored : (entries : List (List ℕ)) (p c : List ℕ) (k d s i index : ℕ)
    (squares indices : List ℕ) → get_or squares k 0 ≡ cond (nat_lt d s) d s
    → get_or indices k 0 ≡ cond (nat_lt d s) index i → length entries ≡ index
    → distance p c ≡ d → IsNearestEntry entries c (record { squared = s; index = i })
    → IsNearestEntry (entries ++ p ∷ []) c (nearest_at squares indices k)
near_stored entries p c k d s i index squares indices square chosen at far near =
    rw (square, chosen) (near_chosen entries p c d s i index at far near)

-- each lane is the greatest of every eighth of these numbers
pub record AreGreatestLanes (squares : List ℕ) (from count : ℕ) (lanes : List ℕ) : Type 0 where
  pub upper : (k : ℕ) → k < count → get_or squares (from + k) 0 ≤ get_or lanes (k % 8) 0
  pub reached : (j : ℕ) → j < 8
      → (k : ℕ) × (k < count) × (get_or squares (from + k) 0 ≡ get_or lanes j 0)

-- the greater lanes
greater_at : (lanes more : List ℕ) (j : ℕ) → length lanes ≡ 8 → length more ≡ 8 → j < 8
    → get_or (sel_l (map (top 31) (zip2 smaller lanes more)) more lanes) j 0
    ≡ max (get_or lanes j 0) (get_or more j 0)
greater_at lanes more j a b l = grind (arith, chosen_at, nat_lt, length-smaller, smaller_at)

-- eight more numbers
pub greatest_lanes_more : (old squares : List ℕ) (from count : ℕ) (lanes more : List ℕ)
    → count % 8 ≡ 0 → length lanes ≡ 8 → length more ≡ 8
    → ((k : ℕ) → k < from + count → get_or squares k 0 ≡ get_or old k 0)
    → ((j : ℕ) → j < 8 → get_or more j 0 ≡ get_or squares (from + count + j) 0)
    → AreGreatestLanes old from count lanes
    → AreGreatestLanes squares from (count + 8)
    (sel_l (map (top 31) (zip2 smaller lanes more)) more lanes)
greatest_lanes_more old squares from count lanes more even a b same own h = record {
  upper = λ k l. grind (arith, nat_tests, own (k - count), same (from + k), greater_at, h.upper k);
  reached = λ j l.
      let is = greater_at lanes more j a b l in
      elim (cases_lt (get_or lanes j 0) (get_or more j 0)) [
        | inl less ↦ (count + j, omega (arith, l), grind (arith, nat_tests, own j))
        | inr above ↦
            let r = h.reached j l in
            (r.0, omega (arith, r.1), grind (arith, nat_tests, same (from + r.0)))
      ];
}

-- the first eight numbers
pub greatest_lanes_first : (squares : List ℕ) (from : ℕ) (lanes : List ℕ)
    → ((j : ℕ) → j < 8 → get_or lanes j 0 ≡ get_or squares (from + j) 0)
    → AreGreatestLanes squares from 8 lanes
greatest_lanes_first squares from lanes own =
    record { upper = λ k l. grind (arith, own k); reached = λ j l. (j, l, sym (own j l)) }

-- the greatest lane is that of the bucket
pub greatest_from_lanes : (codes squares lanes : List ℕ) (bucket greatest : ℕ)
    → 64 * bucket + 64 ≤ length codes → AreGreatestLanes squares (64 * bucket) 64 lanes
    → ((j : ℕ) → j < 8 → get_or lanes j 0 ≤ greatest)
    → ((j : ℕ) × (j < 8) × (get_or lanes j 0 ≡ greatest))
    → IsGreatestIn codes squares bucket greatest
greatest_from_lanes codes squares lanes bucket greatest whole h upper reached = record {
  upper = λ k i.
      let place = k - 64 * bucket in
      grind (arith, nat_tests, h.upper place, upper (place % 8), i.from, i.to);
  reached =
      let r = h.reached reached.0 reached.1 in
      (64 * bucket + r.0, grind (arith, nat_tests), grind (arith, nat_tests));
}
