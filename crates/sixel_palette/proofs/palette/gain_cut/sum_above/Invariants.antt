use Rattle.std.proofs.Common.{◌≡◌, ℕ, ◌+◌, ◌<◌, ◌≤◌, get_or, length}
use Rattle.sixel_palette.specs.declared.palette.color_sums.ColorSums.{ColorSums}
use Rattle.sixel_palette.specs.inside.Sums.{suffix_sums, total}
use Rattle.sixel_palette.proofs.palette.gain_cut.sum_above.Given as goal

abbrev pub invariant-loop-value : goal.invariant-loop-value
invariant-loop-value l = record {
  size : length l.upper ≡ length l.fn.upper;
  above : (k : ℕ) → total l.above k ≡ suffix_sums l.sums l.value k;
  filled : (j k : ℕ) (d : ColorSums) → l.value ≤ j → j < length l.sums
      → total (get_or l.upper j d) k ≡ suffix_sums l.sums (j + 1) k;
}
