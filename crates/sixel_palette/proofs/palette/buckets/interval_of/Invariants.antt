use Rattle.std.proofs.Common.{ℕ, ◌<◌, ◌≤◌, get_or}
use Rattle.sixel_palette.specs.inside.Buckets.{channel}
use Rattle.sixel_palette.proofs.palette.buckets.interval_of.Given as goal

abbrev pub invariant-loop-code : goal.invariant-loop-code
invariant-loop-code l = record {
  low_small : l.low ≤ 255;
  high_small : l.high ≤ 255;
  low : (k : ℕ) → k < l.code-index → l.low ≤ channel l.unit (get_or l.codes k 0);
  high : (k : ℕ) → k < l.code-index → channel l.unit (get_or l.codes k 0) ≤ l.high;
}
