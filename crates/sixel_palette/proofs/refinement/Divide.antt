-- Bins that are divided in place: those up to a cut are swapped to the front of their range.
use Rattle.std.proofs.Common.{◌≡◌, ℕ, ◌+◌, ◌-◌, ◌<◌, ◌≤◌, List, [], ◌∷◌, ◌++◌, length, get_or, set}
use Rattle.std.proofs.Common.{take, drop, refl, ap, sym, ⊎_elim, ◌∙◌, arith}
use Rattle.std.specs.List.{sum_by, swap}
use Rattle.std.proofs.lemmas.{Bool.cases_lt, Bool.Decides.nat_tests, Grind.take-set_at}
use Rattle.std.proofs.lemmas.List.{drop-drop, drop-set-lt, take-set-le, take_more_set, get_or-drop}
use Rattle.std.proofs.lemmas.{List.{length-drop, length-set}, List.Edits.swap_is}
use Rattle.std.proofs.lemmas.List.Sums.{sum_by_more, sum_by_push, sum_by-cons, sum_by-take-drop}
use Rattle.sixel_palette.specs.declared.{palette.bins.Bin.Bin, palette.gain_cut.Channel.Channel}
use Rattle.sixel_palette.specs.GainCut.{side}
use Rattle.sixel_palette.specs.inside.Boxes.{high_part, low_part, range_of}

-- ---- swaps

-- the bins before the first of two places stay
pub swap_front : {X : Type 0} (xs : List X) (n i j : ℕ) (d : X) → n ≤ i → i ≤ j → j < length xs
    → take n (swap xs i j) ≡ take n xs
swap_front xs n i j d l m k = grind (arith, nat_tests, swap_is, take-set-le)

-- and those after the second
pub swap_back : {X : Type 0} (xs : List X) (i j : ℕ) (d : X) → i ≤ j → j < length xs
    → drop (j + 1) (swap xs i j) ≡ drop (j + 1) xs
swap_back xs i j d m k = grind (arith, nat_tests, swap_is, drop-set-lt)

-- the first place gets what the second had
pub swap_taken : {X : Type 0} (f : X → ℕ) (xs : List X) (i j : ℕ) (d : X) → i ≤ j → j < length xs
    → sum_by f (take (i + 1) (swap xs i j)) ≡ sum_by f (take i xs) + f (get_or xs j d)
swap_taken f xs i j d m k =
    let y = get_or xs j d in
    let front : take (i + 1) (swap xs i j) ≡ take i xs ++ y ∷ [] =
    ap (take (i + 1)) (sym (swap_is xs i j d (omega arith) k))
    ∙ ⊎_elim (λ less.
    take-set-le (i + 1) (set xs i y) j (get_or xs i d) (omega arith)
    ∙ take_more_set xs i y (omega arith))
    (λ more.
    let e : j ≡ i = omega arith in
    let size : j < length (set xs i y) = omega (arith, length-set xs i y) in
    rw (take-set_at (set xs i y) j (i + 1) _ (omega arith) size, take-set-le, e) refl)
    (cases_lt i j) in
    ap (sum_by f) front ∙ sum_by_push f (take i xs) y

-- ---- the two parts

-- a number is that of one part
pub parts_of : (channel : Channel) (value : ℕ) (f : Bin → ℕ) (bin : Bin)
    → low_part channel value f bin + high_part channel value f bin ≡ f bin
parts_of channel value f bin = grind (arith, nat_tests)

-- so the sums of both parts add up
pub sums_of_parts : (channel : Channel) (value : ℕ) (f : Bin → ℕ) (bins : List Bin)
    → sum_by (low_part channel value f) bins + sum_by (high_part channel value f) bins
    ≡ sum_by f bins
sums_of_parts channel value f [] = refl
sums_of_parts channel value f (bin ∷ bins) =
    let parts = parts_of channel value f bin in
    omega (arith, sum_by-cons {X = Bin}, sums_of_parts channel value f bins)

-- the number of a bin up to the value is its own, and that of another is 0
pub low_below : (channel : Channel) (value : ℕ) (f : Bin → ℕ) (bin : Bin)
    → side channel bin.corner ≤ value → low_part channel value f bin ≡ f bin
low_below channel value f bin l = grind (arith, nat_tests)

pub low_above : (channel : Channel) (value : ℕ) (f : Bin → ℕ) (bin : Bin)
    → value < side channel bin.corner → low_part channel value f bin ≡ 0
low_above channel value f bin l = grind (arith, nat_tests)

-- the sum over a range that is one longer
pub range_more : (f : Bin → ℕ) (bins : List Bin) (start end : ℕ) (d : Bin) → start ≤ end
    → end < length bins
    → sum_by f (range_of bins start (end + 1)) ≡ sum_by f (range_of bins start end)
    + f (get_or bins end d)
range_more f bins start end d l m =
    let size : end + 1 - start ≡ end - start + 1 = omega arith in
    let place : start + (end - start) ≡ end = omega arith in
    let few : end - start < length (drop start bins) = omega (arith, length-drop start bins) in
    rw (size, sum_by_more f (drop start bins) (end - start) d few, get_or-drop, place) refl

-- a range and what is before it
pub range_after : (f : Bin → ℕ) (bins : List Bin) (start end : ℕ) → start ≤ end
    → sum_by f (take start bins) + sum_by f (range_of bins start end) ≡ sum_by f (take end bins)
range_after f bins start end l = grind (arith, nat_tests, sum_by-take-drop, drop-drop)
