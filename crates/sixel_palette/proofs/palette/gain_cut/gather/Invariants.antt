use Rattle.std.{proofs.Common.{◌≡◌, ℕ, ◌+◌, length, take}, specs.List.sum_by}
use Rattle.sixel_palette.specs.inside.Boxes.{binned_pixels, low_part, summed_pixels}
use Rattle.sixel_palette.specs.inside.Sums.{prefix_sums, total}
use Rattle.sixel_palette.proofs.palette.gain_cut.gather.Given as goal

abbrev pub invariant-loop-bin : goal.invariant-loop-bin
invariant-loop-bin l = record {
  size : length l.sums ≡ length l.fn.sums;
  pixels : summed_pixels l.sums ≡ binned_pixels (take l.bin-index l.bins);
  sums : (n k : ℕ) → prefix_sums l.sums (n + 1) k
      ≡ sum_by (low_part l.channel (l.sides.low + n) (λ bin. total bin.sums k))
      (take l.bin-index l.bins);
}
