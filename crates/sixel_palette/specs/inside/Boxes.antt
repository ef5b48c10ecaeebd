-- The bins of colors, and the boxes that a gain cut makes of them: each is a range of the bins.
use Rattle.std.specs.{List.sum_by, Prelude.{◌≡◌, ℕ, ◌+◌, ◌-◌, ◌<◌, ◌≤◌, List, take, drop, All}}
use Rattle.std.specs.Prelude.{nat_le, nat_lt, ◌≢◌, ◌⊎◌, if◌then◌else◌, length, slice_index_or}
use Rattle.sixel_palette.specs.declared.palette.bins.Bin.{Bin}
use Rattle.sixel_palette.specs.declared.palette.color_sums.ColorSums.{ColorSums}
use Rattle.sixel_palette.specs.declared.palette.gain_cut.Channel.{Channel}
use Rattle.sixel_palette.specs.declared.palette.gain_cut.ColorBox.{ColorBox}
use Rattle.sixel_palette.specs.declared.palette.gain_cut.Sides.{Sides}
use Rattle.sixel_palette.specs.{ColorSums.Pixels, GainCut.{Box, best_cut, box_at, gain, side}}
use Rattle.sixel_palette.specs.inside.Sums.{AreBinsOf, prefix_sums, suffix_sums}

-- the number of pixels in some sums
abbrev pub summed_pixels : List ColorSums → ℕ
summed_pixels sums = sum_by (λ s. s.count) sums

-- the number of pixels in some bins
abbrev pub binned_pixels : List Bin → ℕ
binned_pixels bins = sum_by (λ bin. bin.sums.count) bins

-- the values of a channel of all bins are within the two sides
abbrev pub AreWithin : Channel → Sides → List Bin → Type 0
AreWithin channel sides bins =
    All (λ bin. (sides.low ≤ side channel bin.corner) × (side channel bin.corner ≤ sides.high)) bins

-- the bins of a range
abbrev pub range_of : List Bin → ℕ → ℕ → List Bin
range_of bins start end = take (end - start) (drop start bins)

-- a number of a bin up to a value of a channel, and of one above it, 0 for others
abbrev pub low_part : Channel → ℕ → (Bin → ℕ) → Bin → ℕ
low_part channel value number bin =
    if nat_le (side channel bin.corner) value then number bin else 0

abbrev pub high_part : Channel → ℕ → (Bin → ℕ) → Bin → ℕ
high_part channel value number bin =
    if nat_lt value (side channel bin.corner) then number bin else 0

-- the box is a range of `count` bins
pub record IsRange (count : ℕ) (box : ColorBox) : Type 0 where
  pub order : box.start ≤ box.end
  pub within : box.end ≤ count

-- each box is a range of `count` bins
abbrev pub AreRanges : ℕ → List ColorBox → Type 0
AreRanges count boxes = All (IsRange count) boxes

-- the gains along a channel, where the sums at each value from `low` on are in a list
pub record AreGains (sums : List ColorSums) (sides : Sides) (gains : ℕ → ℕ) : Type 0 where
  pub before : (value : ℕ) → value < sides.low → gains value ≡ 0
  pub at : (n : ℕ) → n < sides.high - sides.low
      → gains (sides.low + n) ≡ gain (prefix_sums sums (n + 1)) (suffix_sums sums (n + 1))

-- the boxes of the code are those of the pixels: ranges of the bins that do not overlap, of the
-- pixels of each box, with its best cut
pub record AreBoxes (pixels : Pixels) (bins : List Bin) (boxes : List ColorBox) (model : List Box)
    : Type 0 where
  pub size : length boxes ≡ length model
  pub ranges : AreRanges (length bins) boxes
  pub apart : (i j : ℕ) (d : ColorBox) → i < length boxes → j < length boxes → i ≢ j
      → ((slice_index_or boxes i d).end ≤ (slice_index_or boxes j d).start)
      ⊎ ((slice_index_or boxes j d).end ≤ (slice_index_or boxes i d).start)
  pub bins_of : (k : ℕ) (d : ColorBox) → k < length boxes
      → AreBinsOf pixels (box_at model k)
      (range_of bins (slice_index_or boxes k d).start (slice_index_or boxes k d).end)
  pub cuts : (k : ℕ) (d : ColorBox) → k < length boxes
      → (slice_index_or boxes k d).cut ≡ best_cut pixels (box_at model k)
