use Rattle.std.proofs.Common.{◌≡◌, ℕ, Bool, List, [], ◌<◌, ◌≤◌, false, get_or, length, take}
use Rattle.std.specs.List.{sum}
use Rattle.sixel_palette.specs.{ColorSums.sums_of, GainCut.corner, Lloyd.is_corner}
use Rattle.sixel_palette.specs.inside.{Bins.{IsTable, corners_of}, Boxes.binned_pixels}
use Rattle.sixel_palette.specs.inside.{Codes.color_of, Sums.{binned_sums, first_counted}}
use Rattle.sixel_palette.proofs.palette.bins.histogram.Given as goal

abbrev pub invariant-loop-index : goal.invariant-loop-index
invariant-loop-index l = record {
  positions : length l.positions.items ≡ 4096;
  pixels : binned_pixels l.bins.items ≡ sum (take l.index l.counts);
  sums : (contains : List ℕ → Bool) (k : ℕ) → binned_sums contains l.bins.items k
      ≡ sums_of (first_counted 4 l.codes l.counts l.index) (λ c. contains (corner 4 c)) k;
  table : (k : ℕ) → l.index ≤ k → k < length l.codes
      → IsTable (corners_of l.bins.items) l.positions.items
      (get_or (corner 4 (color_of (get_or l.codes k 0))) 0 0);
  distinct : (i j : ℕ) → i < j → j < length (corners_of l.bins.items)
      → is_corner (get_or (corners_of l.bins.items) i []) (get_or (corners_of l.bins.items) j [])
      ≡ false;
}
