-- The box whose best cut gains most.
use Rattle.std.proofs.Common.{◌≡◌, ℕ, zero, suc, ◌+◌, ◌-◌, ◌<◌, ◌≤◌, true, false, cond, List, []}
use Rattle.std.proofs.Common.{◌∷◌, length, get_or, refl, ap, sym, ⊎_elim, ◌∙◌, arith}
use Rattle.std.specs.Prelude.{◌⊎◌, nat_lt}
use Rattle.std.proofs.lemmas.{Bool.cases_lt, Bool.Decides.nat_tests, List.take_all}
use Rattle.sixel_palette.specs.declared.{palette.bins.Bin.Bin, palette.gain_cut.ColorBox.ColorBox}
use Rattle.sixel_palette.specs.declared.palette.gain_cut.Cut.{Cut}
use Rattle.sixel_palette.specs.{ColorSums.Pixels, GainCut.{Box, best_box, best_cut, box_at}}
use Rattle.sixel_palette.specs.GainCut.{boxes_after, cut_at, first_greatest, gain_at, is_final}
use Rattle.sixel_palette.specs.inside.{Boxes.{AreBoxes, range_of}, Sums.AreBinsOf}

-- ---- the greatest gain

pub first_greatest-le : (f : ℕ → ℕ) (n : ℕ) → first_greatest f n ≤ n
unfolding first_greatest
first_greatest-le f zero = omega arith
first_greatest-le f (suc n) = grind (arith, nat_tests, first_greatest-le f n)

pub first_greatest-more : (f : ℕ → ℕ) (n : ℕ) → first_greatest f (n + 1)
    ≡ cond (nat_lt (f (first_greatest f n)) (f (n + 1))) (n + 1) (first_greatest f n)
unfolding first_greatest
first_greatest-more f n = let e : n + 1 ≡ suc n = omega arith in rw e refl

pub first_greatest-same : (f g : ℕ → ℕ) (n : ℕ) → ((k : ℕ) → k ≤ n → f k ≡ g k)
    → first_greatest f n ≡ first_greatest g n
unfolding first_greatest
first_greatest-same f g zero same = refl
first_greatest-same f g (suc n) same =
    let rest = first_greatest-same f g n (λ k l. same k (omega arith)) in
    grind (arith, nat_tests, rest, same (first_greatest g n), same (suc n), first_greatest-le)

-- one position more
pub first_greatest-next : (f : ℕ → ℕ) (position best next : ℕ) → 1 ≤ position
    → best ≡ first_greatest f (position - 1)
    → ((f best < f position) × (next ≡ position)) ⊎ ((f position ≤ f best) × (next ≡ best))
    → next ≡ first_greatest f (position + 1 - 1)
first_greatest-next f position best next some first which =
    let here : position - 1 + 1 ≡ position = omega arith in
    let place : position + 1 - 1 ≡ position = omega arith in
    let more = rw (here, ← first) at (first_greatest-more f (position - 1)) in
    rw place (grind (arith, nat_tests))

-- no more cuts after the last one that gains
pub boxes_final : (pixels : Pixels) (m n : ℕ) → m ≤ n
    → is_final pixels (boxes_after pixels m) ≡ true → boxes_after pixels n ≡ boxes_after pixels m
unfolding boxes_after
boxes_final pixels m zero l final = let e : m ≡ 0 = omega arith in rw e refl
boxes_final pixels m (suc n) l final =
    ⊎_elim (λ (less : m < suc n).
    rw (boxes_final pixels m n (omega arith) final, final) refl)
    (λ (more : suc n ≤ m). let e : m ≡ suc n = omega arith in rw e refl) (cases_lt m (suc n))

-- one more cut
pub boxes_more : (pixels : Pixels) (n : ℕ) → is_final pixels (boxes_after pixels n) ≡ false
    → boxes_after pixels (n + 1)
    ≡ cut_at (boxes_after pixels n) (best_box pixels (boxes_after pixels n))
    (best_cut pixels (box_at (boxes_after pixels n) (best_box pixels (boxes_after pixels n))))
unfolding boxes_after
boxes_more pixels n more = let e : n + 1 ≡ suc n = omega arith in rw e (rw more refl)

-- the box that the code cuts is the best one
pub best_of_boxes : (pixels : Pixels) (bins : List Bin) (boxes : List ColorBox) (model : List Box)
    (d : ColorBox) → AreBoxes pixels bins boxes model → 0 < length boxes
    → first_greatest (λ k. (get_or boxes k d).cut.gain) (length boxes - 1) ≡ best_box pixels model
best_of_boxes pixels bins boxes model d h some = grind (arith, nat_tests, first_greatest-same)

-- the gain that the code compares is that of the best box
pub best_gain : (pixels : Pixels) (bins : List Bin) (boxes : List ColorBox) (model : List Box)
    (best : ℕ) (item : ColorBox) → AreBoxes pixels bins boxes model → 0 < length boxes
    → best ≡ first_greatest (λ k. (get_or boxes k item).cut.gain) (length boxes - 1)
    → best < length boxes → item ≡ get_or boxes best item
    → gain_at pixels model (best_box pixels model) ≡ item.cut.gain
best_gain pixels bins boxes model best item h some first within own =
    ap (gain_at pixels model) (sym (first ∙ best_of_boxes pixels bins boxes model item h some))
    ∙ ap (λ (c : Cut). c.gain)
    (sym (h.cuts best item within) ∙ ap (λ (x : ColorBox). x.cut) (sym own))

-- the box of all bins
pub boxes_start : (pixels : Pixels) (bins : List Bin) (box : ColorBox) → box.start ≡ 0
    → box.end ≡ length bins
    → (AreBinsOf pixels (λ _. true) (range_of bins 0 (length bins))
    → box.cut ≡ best_cut pixels (λ _. true))
    → AreBinsOf pixels (λ _. true) bins → AreBoxes pixels bins (box ∷ []) (boxes_after pixels 0)
unfolding boxes_after
boxes_start pixels bins box start end cut are = grind (arith, nat_tests, take_all)
