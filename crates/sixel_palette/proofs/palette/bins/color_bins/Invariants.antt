use Rattle.std.proofs.Common.{◌≡◌, ℕ, Bool, List, map, take}
use Rattle.std.specs.List.{sum}
use Rattle.sixel_palette.specs.{ColorSums.sums_of, GainCut.corner}
use Rattle.sixel_palette.specs.inside.{Bins.corners_of, Boxes.binned_pixels, Codes.color_of}
use Rattle.sixel_palette.specs.inside.Sums.{binned_sums, first_counted}
use Rattle.sixel_palette.proofs.palette.bins.color_bins.Given as goal

abbrev pub invariant-loop-index : goal.invariant-loop-index
invariant-loop-index l = record {
  pixels : binned_pixels l.bins.items ≡ sum (take l.index l.counts);
  sums : (contains : List ℕ → Bool) (k : ℕ) → binned_sums contains l.bins.items k
      ≡ sums_of (first_counted 1 l.codes l.counts l.index) (λ c. contains (corner 1 c)) k;
  corners : corners_of l.bins.items ≡ map color_of (take l.index l.codes);
}
