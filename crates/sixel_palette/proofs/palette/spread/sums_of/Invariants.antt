use Rattle.std.{proofs.Common.{◌≡◌, ℕ, ◌*◌, get_or, take}, specs.List.sum}
use Rattle.sixel_palette.{specs.ColorSums.share, specs.Refined.sum_to, specs.inside.Codes.color_of}
use Rattle.sixel_palette.specs.inside.Sums.{total}
use Rattle.sixel_palette.proofs.palette.spread.sums_of.Given as goal

abbrev pub invariant-loop-position : goal.invariant-loop-position
invariant-loop-position l = record {
  few : l.sums.count ≡ sum (take l.position l.counts);
  sums : (k : ℕ) → total l.sums k
      ≡ sum_to (λ j. get_or l.counts j 0 * share k (color_of (get_or l.codes j 0))) l.position;
}
