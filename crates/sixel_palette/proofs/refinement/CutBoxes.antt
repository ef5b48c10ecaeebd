-- Boxes of bins, and a box that is cut in two.
use Rattle.std.proofs.Common.{◌≡◌, ℕ, ◌+◌, ◌-◌, ◌<◌, ◌≤◌, Bool, true, cond, List, [], ◌∷◌, ◌++◌}
use Rattle.std.proofs.Common.{length, get_or, set, take, drop, refl, ap, sym, ⊎_elim, subst, ◌∙◌}
use Rattle.std.proofs.{Common.arith, lemmas.Bool.Decides.nat_tests, lemmas.List.drop-drop}
use Rattle.std.proofs.lemmas.List.{get_or-drop, get_or_default, get_or-set_other, get_or-set_same}
use Rattle.std.proofs.lemmas.List.{get_or-take, get_or_append_left, get_or_at, length-drop}
use Rattle.std.proofs.lemmas.List.{same_lists, length-set, length-take, length_push}
use Rattle.std.specs.{List.sum_by, Prelude.{◌≢◌, ◌⊎◌, ◌&&◌, nat_le, nat_lt}}
use Rattle.sixel_palette.specs.{ColorSums.Pixels, GainCut.{Box, above, below, best_cut, box_at}}
use Rattle.sixel_palette.specs.{GainCut.{cut_at, side}, declared.palette.bins.Bin.Bin}
use Rattle.sixel_palette.specs.declared.palette.gain_cut.Channel.{Channel}
use Rattle.sixel_palette.specs.declared.palette.gain_cut.ColorBox.{ColorBox}
use Rattle.sixel_palette.specs.{declared.palette.gain_cut.Cut.Cut, inside.Boxes.{AreBoxes, IsRange}}
use Rattle.sixel_palette.specs.{inside.Boxes.{high_part, low_part, range_of}, inside.Sums.AreBinsOf}
use Rattle.sixel_palette.specs.inside.Sums.{channels, total}
use Rattle.sixel_palette.proofs.refinement.Cuts.{side-channels}

-- ---- a list with one element replaced and one more

pub cut_first : {X : Type 0} (xs : List X) (p : ℕ) (a b d : X) → p < length xs
    → get_or (set xs p a ++ b ∷ []) p d ≡ a
cut_first xs p a b d l = grind (arith, nat_tests, get_or_append_left, length-set, get_or-set_same)

pub cut_other : {X : Type 0} (xs : List X) (p : ℕ) (a b d : X) (k : ℕ) → k < length xs → k ≢ p
    → get_or (set xs p a ++ b ∷ []) k d ≡ get_or xs k d
cut_other xs p a b d k l e = grind (arith, get_or_append_left, length-set, get_or-set_other)

pub cut_last : {X : Type 0} (xs : List X) (p : ℕ) (a b d : X) (n : ℕ) → n ≡ length xs
    → get_or (set xs p a ++ b ∷ []) n d ≡ b
cut_last xs p a b d n e = grind (arith, nat_tests, get_or_at, length-set)

pub cut_length : {X : Type 0} (xs : List X) (p : ℕ) (a b : X)
    → length (set xs p a ++ b ∷ []) ≡ length xs + 1
cut_length xs p a b = omega (arith, length_push (set xs p a) b, length-set xs p a)

-- what is so of both parts, and of each other element, is so of each
cut_cases : {X Y : Type 0} (P : X → Y → Type 0) (xs : List X) (ys : List Y) (p : ℕ) (a b d : X)
    (u v e : Y) → length xs ≡ length ys → p < length xs → P a u
    → ((k : ℕ) → k < length xs → k ≢ p → P (get_or xs k d) (get_or ys k e)) → P b v
    → (k : ℕ) → k < length (set xs p a ++ b ∷ [])
    → P (get_or (set xs p a ++ b ∷ []) k d) (get_or (set ys p u ++ v ∷ []) k e)
cut_cases P xs ys p a b d u v e same l first other last k m =
    grind (arith, nat_tests, cut_first, cut_other, cut_last, cut_length)

-- the parts of an interval lie apart from all intervals that it lies apart from
apart_parts : (s e from to : ℕ → ℕ) (n p middle : ℕ) → p < n → s p ≤ middle → middle ≤ e p
    → ((i j : ℕ) → i < n → j < n → i ≢ j → (e i ≤ s j) ⊎ (e j ≤ s i))
    → (from p ≡ s p) × (to p ≡ middle) × (from n ≡ middle) × (to n ≡ e p)
    → ((k : ℕ) → k < n → k ≢ p → (from k ≡ s k) × (to k ≡ e k))
    → (i j : ℕ) → i < n + 1 → j < n + 1 → i ≢ j → (to i ≤ from j) ⊎ (to j ≤ from i)
apart_parts s e from to n p middle l low high apart own others i j m o other =
    grind (arith, nat_tests, apart i j, apart i p, apart p j, others i, others j)

-- ---- ranges

-- a range beside the one that changed
pub same_range : (old new : List Bin) (s e start end : ℕ) → length new ≡ length old
    → take s new ≡ take s old → drop e new ≡ drop e old → (end ≤ s) ⊎ (e ≤ start)
    → range_of new start end ≡ range_of old start end
same_range old new s e start end size front back apart =
    let whole : (xs : List Bin) → e ≤ start → drop start xs ≡ drop (start - e) (drop e xs) = λ xs l.
    grind (arith, nat_tests, drop-drop) in
    ⊎_elim (λ before.
    grind (arith, nat_tests, same_lists, get_or-take, get_or-drop, length-take, length-drop))
    (λ after. grind (arith, nat_tests, whole)) apart

-- ---- the parts of a box

-- the bins of a part, by whether a bin is in it
part_of_box : (pixels : Pixels) (box : Box) (test : List ℕ → Bool) (old new : List Bin)
    → AreBinsOf pixels box old
    → ((c : List ℕ) → test (channels c) ≡ test c)
    → ((number : Bin → ℕ) → sum_by number new
    ≡ sum_by (λ bin. cond (test bin.corner) (number bin) 0) old)
    → AreBinsOf pixels (λ c. box c && test c) new
part_of_box pixels box test old new are same part = λ contains k.
    let whole = part (λ bin. cond (contains (channels bin.corner)) (total bin.sums k) 0) in
    grind (arith, nat_tests, are (λ c. test c && contains c) k)

pub bins_below : (pixels : Pixels) (box : Box) (channel : Channel) (value : ℕ) (old new : List Bin)
    → AreBinsOf pixels box old
    → ((number : Bin → ℕ) → sum_by number new ≡ sum_by (low_part channel value number) old)
    → AreBinsOf pixels (below box channel value) new
bins_below pixels box channel value old new are part =
    part_of_box pixels box (λ c. nat_le (side channel c) value) old new are
    (grind (arith, nat_tests, side-channels)) part

pub bins_above : (pixels : Pixels) (box : Box) (channel : Channel) (value : ℕ) (old new : List Bin)
    → AreBinsOf pixels box old
    → ((number : Bin → ℕ) → sum_by number new ≡ sum_by (high_part channel value number) old)
    → AreBinsOf pixels (above box channel value) new
bins_above pixels box channel value old new are part =
    part_of_box pixels box (λ c. nat_lt value (side channel c)) old new are
    (grind (arith, nat_tests, side-channels)) part

-- ---- a box that is cut in two

-- what the two parts are
pub record AreParts (old new : List Bin) (whole first second : ColorBox) : Type 0 where
  pub size : length new ≡ length old
  pub start : first.start ≡ whole.start
  pub middle : first.end ≡ second.start
  pub end : second.end ≡ whole.end
  pub from : whole.start ≤ first.end
  pub to : first.end ≤ whole.end
  pub front : take whole.start new ≡ take whole.start old
  pub back : drop whole.end new ≡ drop whole.end old
  pub lower : (number : Bin → ℕ) → sum_by number (range_of new whole.start first.end)
      ≡ sum_by (low_part whole.cut.channel whole.cut.value number)
      (range_of old whole.start whole.end)
  pub upper : (number : Bin → ℕ) → sum_by number (range_of new first.end whole.end)
      ≡ sum_by (high_part whole.cut.channel whole.cut.value number)
      (range_of old whole.start whole.end)
  pub first_cut : (pixels : Pixels) (box : Box)
      → AreBinsOf pixels box (range_of new whole.start first.end) → first.cut ≡ best_cut pixels box
  pub second_cut : (pixels : Pixels) (box : Box)
      → AreBinsOf pixels box (range_of new first.end whole.end) → second.cut ≡ best_cut pixels box

pub boxes_cut : (pixels : Pixels) (old new : List Bin) (boxes : List ColorBox) (model : List Box)
    (p : ℕ) (whole first second : ColorBox) → AreBoxes pixels old boxes model → p < length boxes
    → whole ≡ get_or boxes p whole → AreParts old new whole first second
    → AreBoxes pixels new (set boxes p first ++ second ∷ [])
    (cut_at model p (best_cut pixels (box_at model p)))
boxes_cut pixels old new boxes model p whole first second h within own parts =
    let n = length boxes in
    let all = set boxes p first ++ second ∷ [] in
    let box = box_at model p in
    let low = below box whole.cut.channel whole.cut.value in
    let high = above box whole.cut.channel whole.cut.value in
    let yes : Box = λ _. true in
    let same_cut : whole.cut ≡ best_cut pixels box =
    ap (λ (b : ColorBox). b.cut) own ∙ h.cuts p whole within in
    let size = cut_length boxes p first second in
    let at : (d : ColorBox) → get_or boxes p d ≡ whole = λ d.
    get_or_default boxes p d whole within ∙ sym own in
    let range = rw (at whole) at (h.ranges p whole within) in
    let bins = rw (at whole) at (h.bins_of p whole within) in
    let old_range = range_of old whole.start whole.end in
    let first_bins =
    bins_below pixels box whole.cut.channel whole.cut.value old_range
    (range_of new whole.start first.end) bins parts.lower in
    let second_bins =
    bins_above pixels box whole.cut.channel whole.cut.value old_range
    (range_of new first.end whole.end) bins parts.upper in
    subst (λ (c : Cut). AreBoxes pixels new all (cut_at model p c)) same_cut (record {
      size = omega (arith, h.size, size, cut_length model p low high);
      ranges = λ k d.
          cut_cases (λ c _. IsRange (length new) c) boxes model p first second d low high yes h.size
          within
          (record {
            order = omega (arith, parts.start, parts.from);
            within = omega (arith, parts.to, range.within, parts.size);
          })
          (λ k l f.
          let r = h.ranges k d l in
          record { order = r.order; within = omega (arith, r.within, parts.size) })
          (record {
            order = omega (arith, parts.middle, parts.end, parts.to);
            within = omega (arith, parts.end, range.within, parts.size);
          })
          k;
      apart = λ i j d l m.
          apart_parts (λ k. (get_or boxes k d).start) (λ k. (get_or boxes k d).end)
          (λ k. (get_or all k d).start) (λ k. (get_or all k d).end) n p first.end within
          (rw (at d) parts.from) (rw (at d) parts.to) (λ i j l m. h.apart i j d l m)
          (rw (cut_first boxes p first second d within, cut_last boxes p _ _ d n refl, at d)
          (parts.start, refl, sym parts.middle, parts.end))
          (λ k l f. rw (cut_other boxes p first second d k l f) (refl, refl))
          i j (omega (arith, l, size)) (omega (arith, m, size));
      bins_of = λ k d.
          cut_cases (λ c b. AreBinsOf pixels b (range_of new c.start c.end)) boxes model p first
          second d low high yes h.size within (rw parts.start first_bins)
          (λ k l f.
          let apart = rw (at d) at (h.apart k p d l within f) in
          rw (same_range old new whole.start whole.end (get_or boxes k d).start
          (get_or boxes k d).end parts.size parts.front parts.back apart) (h.bins_of k d l))
          (rw (← parts.middle, parts.end) second_bins) k;
      cuts = λ k d.
          cut_cases (λ c b. c.cut ≡ best_cut pixels b) boxes model p first second d low high yes
          h.size within (parts.first_cut pixels low first_bins) (λ k l f. h.cuts k d l)
          (parts.second_cut pixels high second_bins) k;
    })
