-- The sums that the code stores, over bins and over colors with counts.
use Rattle.std.specs.{List.sum_by, Prelude.{◌≡◌, ℕ, ◌*◌, zero, suc, Bool, List, [], ◌∷◌, length}}
use Rattle.std.specs.Prelude.{take, drop, slice_index, ◌<◌, ◌==◌, slice_index_or, ◌&&◌}
use Rattle.std.specs.Prelude.{if◌then◌else◌}
use Rattle.sixel_palette.specs.{ColorSums.{Pixels, sums_of}, GainCut.{Box, bin_step, corner}}
use Rattle.sixel_palette.specs.{Lloyd.is_corner, Refined.sum_to, declared.palette.bins.Bin.Bin}
use Rattle.sixel_palette.specs.declared.palette.color_sums.ColorSums.{ColorSums}
use Rattle.sixel_palette.specs.inside.Codes.{color_of}

-- the sums as a sequence
abbrev pub total : ColorSums → ℕ → ℕ
total sums zero = sums.count
total sums (suc zero) = sums.red
total sums (suc (suc zero)) = sums.green
total sums (suc (suc (suc _))) = sums.blue

-- the pixels of the first colors of a list of codes with counts
abbrev pub first_counted : ℕ → List ℕ → List ℕ → ℕ → Pixels
first_counted step codes counts n = record {
  sum = λ number. sum_to (λ k. slice_index counts k * number (color_of (slice_index codes k))) n;
  step = step;
}

-- the pixels of all of them
abbrev pub counted_pixels : List ℕ → List ℕ → Pixels
counted_pixels codes counts =
    first_counted (bin_step (length codes)) codes counts (length codes)

-- the three channels of a color
abbrev pub channels : List ℕ → List ℕ
channels c = slice_index c 0 ∷ slice_index c 1 ∷ slice_index c 2 ∷ []

-- the sums over the bins whose corner is in a set
abbrev pub binned_sums : (List ℕ → Bool) → List Bin → ℕ → ℕ
binned_sums contains bins k =
    sum_by (λ bin. if contains (channels bin.corner) then total bin.sums k else 0) bins

-- the bins are those of the pixels of a box
abbrev pub AreBinsOf : Pixels → Box → List Bin → Type 0
AreBinsOf pixels box bins =
    (contains : List ℕ → Bool) (k : ℕ)
    → binned_sums contains bins k
    ≡ sums_of pixels (λ c. box (corner pixels.step c) && contains (corner pixels.step c)) k

-- the bin is of all pixels with its corner
abbrev pub IsWholeBin : Pixels → Bin → Type 0
IsWholeBin pixels bin =
    (k : ℕ) → total bin.sums k ≡ sums_of pixels (λ c. is_corner bin.corner (corner pixels.step c)) k

-- the sums of the first sums of a list, and of the others
abbrev pub prefix_sums : List ColorSums → ℕ → ℕ → ℕ
prefix_sums sums n k = sum_by (λ s. total s k) (take n sums)

abbrev pub suffix_sums : List ColorSums → ℕ → ℕ → ℕ
suffix_sums sums n k = sum_by (λ s. total s k) (drop n sums)

-- each bin has the palette index of its entry
abbrev pub AreIndicesBy : (Bin → ℕ) → List Bin → List ℕ → Type 0
AreIndicesBy entry bins indices =
    (k : ℕ) (d : Bin) → k < length bins
    → slice_index indices k ≡ entry (slice_index_or bins k d)

-- the sums over the bins that have an entry
abbrev pub entry_sums : (Bin → ℕ) → List Bin → ℕ → ℕ → ℕ
entry_sums entry bins index k =
    sum_by (λ bin. if entry bin == index then total bin.sums k else 0) bins
