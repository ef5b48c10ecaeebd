use Rattle.std.proofs.Common.{◌≡◌, ℕ, ◌<◌, get_or, length, take}
use Rattle.sixel_palette.specs.declared.palette.bins.Bin.{Bin}
use Rattle.sixel_palette.specs.declared.palette.color_sums.ColorSums.{ColorSums}
use Rattle.sixel_palette.specs.inside.Boxes.{binned_pixels, summed_pixels}
use Rattle.sixel_palette.specs.inside.Sums.{AreIndicesBy, entry_sums, total}
use Rattle.sixel_palette.proofs.palette.lloyd.add_bins.Given as goal

abbrev pub invariant-loop-position : goal.invariant-loop-position
invariant-loop-position l = record {
  size : length l.sums ≡ 256;
  pixels : summed_pixels l.sums ≡ binned_pixels (take l.position l.bins);
  sums : (entry : Bin → ℕ) → AreIndicesBy entry l.bins l.indices
      → (index k : ℕ) (d : ColorSums) → index < 256
      → total (get_or l.sums index d) k ≡ entry_sums entry (take l.position l.bins) index k;
}
