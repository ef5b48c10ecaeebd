-- The best cut of some bins along a channel, by the sums at each value.
use Rattle.std.proofs.Common.{◌≡◌, ℕ, zero, suc, ◌+◌, ◌-◌, ◌<◌, ◌≤◌, cond, List, [], ◌∷◌, length}
use Rattle.std.proofs.Common.{get_or, set, inl, inr, refl, sym, ⊎_elim, ◌∙◌, arith}
use Rattle.std.{specs.Prelude.{nat_le, nat_lt}, specs.List.sum_by, proofs.Math.Seq.take-set-lt}
use Rattle.std.{proofs.lemmas.Bool.cases_lt, proofs.lemmas.Bool.Decides.nat_tests}
use Rattle.std.proofs.lemmas.List.{get_or-take, length-set, length-take, take-set-le, take_all}
use Rattle.std.proofs.lemmas.List.Sums.{sum_by-drop_more, sum_by-set, sum_by-take-drop}
use Rattle.std.proofs.lemmas.List.Sums.{get_or-le-sum_by, sum_by_more, sum_by_more_le}
use Rattle.sixel_palette.proofs.refinement.Divide.{low_above, low_below, parts_of, sums_of_parts}
use Rattle.sixel_palette.{proofs.refinement.Sums.{gain-none, sum_by_zero}, specs.ColorSums.Pixels}
use Rattle.sixel_palette.specs.GainCut.{Box, above, below, best_to, better, box_sums, cut_gain}
use Rattle.sixel_palette.{specs.GainCut.{gain, side}, specs.declared.palette.bins.Bin.Bin}
use Rattle.sixel_palette.specs.declared.palette.color_sums.ColorSums.{ColorSums}
use Rattle.sixel_palette.specs.declared.palette.gain_cut.Channel.{Channel}
use Rattle.sixel_palette.specs.declared.palette.gain_cut.Cut.{Cut}
use Rattle.sixel_palette.{specs.declared.palette.gain_cut.Sides.Sides, specs.inside.Boxes.AreGains}
use Rattle.sixel_palette.specs.inside.Boxes.{AreWithin, high_part, low_part}
use Rattle.sixel_palette.specs.inside.Sums.{AreBinsOf, channels, prefix_sums, suffix_sums, total}

-- ---- the best of cuts

pub better-taken : (old new : Cut) → old.gain < new.gain → better old new ≡ new
better-taken old new l = grind (arith, nat_tests)

pub better-kept : (old new : Cut) → new.gain ≤ old.gain → better old new ≡ old
better-kept old new l = grind (arith, nat_tests)

pub best_to-more : (gains : ℕ → ℕ) (channel : Channel) (n : ℕ) (cut : Cut)
    → best_to gains channel (n + 1) cut ≡ better (best_to gains channel n cut)
    (record { channel = channel; value = n; gain = gains n })
unfolding best_to
best_to-more gains channel n cut = grind (arith, nat_tests, best_to)

-- values without a gain change nothing
pub best_to-same : (gains : ℕ → ℕ) (channel : Channel) (m n : ℕ) (cut : Cut) → m ≤ n
    → ((value : ℕ) → m ≤ value → value < n → gains value ≡ 0)
    → best_to gains channel n cut ≡ best_to gains channel m cut
unfolding best_to
best_to-same gains channel m zero cut l none = let e : m ≡ 0 = omega arith in rw e refl
best_to-same gains channel m (suc n) cut l none =
    let rest = best_to-same gains channel m n cut in
    ⊎_elim (λ less. grind (arith, nat_tests, rest, none))
    (λ more. let e : m ≡ suc n = omega arith in rw e refl) (cases_lt m (suc n))

pub gain-same : (a b c d : ℕ → ℕ) → ((k : ℕ) → a k ≡ b k) → ((k : ℕ) → c k ≡ d k)
    → gain a c ≡ gain b d
gain-same a b c d same other = λ i. gain (λ k. same k i) (λ k. other k i)

-- ---- sums of the first values, and of the others

pub prefix-more : (sums : List ColorSums) (n k : ℕ) (d : ColorSums) → n < length sums
    → prefix_sums sums (n + 1) k ≡ prefix_sums sums n k + total (get_or sums n d) k
prefix-more sums n k d l = sum_by_more (λ s. total s k) sums n d l

-- ---- sums at each value of a channel

-- one bin more
pub gathered : (sums : List ColorSums) (value : ℕ) (old new : ColorSums) (bin : Bin)
    (channel : Channel) (low n k : ℕ) → value < length sums → old ≡ get_or sums value old
    → side channel bin.corner ≡ low + value → total new k ≡ total old k + total bin.sums k
    → prefix_sums (set sums value new) (n + 1) k
    ≡ prefix_sums sums (n + 1) k + low_part channel (low + n) (λ b. total b.sums k) bin
gathered sums value old new bin channel low n k within own here plus =
    let below = low_below channel (low + n) (λ b. total b.sums k) bin in
    let above = low_above channel (low + n) (λ b. total b.sums k) bin in
    grind (arith, get_or-take, take-set-lt, sum_by-set, length-take, take-set-le)

pub ruleset side_sums =
    (nat_tests, length-set, sum_by-set, sum_by_more, sum_by_more_le, get_or-le-sum_by, gathered)

-- ---- the parts of a box

pub side-channels : (channel : Channel) (c : List ℕ) → side channel (channels c) ≡ side channel c
side-channels channel c = grind (arith, nat_tests)

pub sums_below : (pixels : Pixels) (box : Box) (bins : List Bin) (channel : Channel) (value k : ℕ)
    → AreBinsOf pixels box bins → box_sums pixels (below box channel value) k
    ≡ sum_by (low_part channel value (λ b. total b.sums k)) bins
sums_below pixels box bins channel value k are =
    sym (are (λ c. nat_le (side channel c) value) k)
    ∙ (λ i.
    sum_by (λ b. cond (nat_le (side-channels channel b.corner i) value) (total b.sums k) 0) bins)

pub sums_above : (pixels : Pixels) (box : Box) (bins : List Bin) (channel : Channel) (value k : ℕ)
    → AreBinsOf pixels box bins → box_sums pixels (above box channel value) k
    ≡ sum_by (high_part channel value (λ b. total b.sums k)) bins
sums_above pixels box bins channel value k are =
    sym (are (λ c. nat_lt value (side channel c)) k)
    ∙ (λ i.
    sum_by (λ b. cond (nat_lt value (side-channels channel b.corner i)) (total b.sums k) 0) bins)

-- no bin is below the least value, and none above the greatest
none_below : (channel : Channel) (sides : Sides) (bins : List Bin) (value : ℕ) (f : Bin → ℕ)
    → AreWithin channel sides bins → value < sides.low
    → sum_by (low_part channel value f) bins ≡ 0
none_below channel sides bins value f within l = grind (arith, nat_tests, sum_by_zero, low_above)

none_above : (channel : Channel) (sides : Sides) (bins : List Bin) (value : ℕ) (f : Bin → ℕ)
    → AreWithin channel sides bins → sides.high ≤ value
    → sum_by (high_part channel value f) bins ≡ 0
none_above channel sides bins value f within l = grind (arith, sum_by_zero, parts_of, low_below)

-- the gains of a box are those of the sums of its bins
pub gains_of_box : (pixels : Pixels) (box : Box) (bins : List Bin) (channel : Channel)
    (sides : Sides) (sums : List ColorSums) → AreBinsOf pixels box bins
    → AreWithin channel sides bins → sides.low ≤ sides.high
    → length sums ≡ sides.high + 1 - sides.low
    → ((n k : ℕ) → prefix_sums sums (n + 1) k
    ≡ sum_by (low_part channel (sides.low + n) (λ b. total b.sums k)) bins)
    → AreGains sums sides (cut_gain pixels box channel)
gains_of_box pixels box bins channel sides sums are within order size gathered =
    let f : ℕ → Bin → ℕ = λ k b. total b.sums k in
    let all : (k : ℕ) → sum_by (λ s. total s k) sums ≡ sum_by (f k) bins = λ k.
    let top = sides.high - sides.low in
    let high : sides.low + top ≡ sides.high = omega arith in
    let whole = rw (take_all (top + 1) sums (omega arith), high) at (gathered top k) in
    let none = none_above channel sides bins sides.high (f k) within (omega arith) in
    omega (arith, sums_of_parts channel sides.high (f k) bins) in
    record {
      before = λ value l.
          gain-none _ (box_sums pixels (above box channel value))
          (inl (sums_below pixels box bins channel value 0 are
          ∙ none_below channel sides bins value (f 0) within l));
      at = λ n l.
          let value = sides.low + n in
          gain-same _ (prefix_sums sums (n + 1)) _ (suffix_sums sums (n + 1))
          (λ k. sums_below pixels box bins channel value k are ∙ sym (gathered n k))
          (λ k.
          let above = sums_above pixels box bins channel value k are in
          let parts = sums_of_parts channel value (f k) bins in
          omega (arith, gathered n k, sum_by-take-drop (λ s. total s k) sums (n + 1), all k));
    }

-- above the greatest value there is no gain
pub no_gain_above : (pixels : Pixels) (box : Box) (bins : List Bin) (channel : Channel)
    (sides : Sides) (value : ℕ) → AreBinsOf pixels box bins → AreWithin channel sides bins
    → sides.high ≤ value → cut_gain pixels box channel value ≡ 0
no_gain_above pixels box bins channel sides value are within l =
    gain-none _ (box_sums pixels (above box channel value))
    (inr (sums_above pixels box bins channel value 0 are
    ∙ none_above channel sides bins value (λ b. total b.sums 0) within l))
