use Rattle.std.proofs.Common.{ℕ, ◌-◌, ◌*◌, ◌<◌, ◌≤◌, length, get_or}
use Rattle.sixel_palette.specs.inside.Buckets.{IsInBucket}
use Rattle.sixel_palette.proofs.traversal.{Buckets.none, Relaxation.IsGreatestOf}
use Rattle.sixel_palette.proofs.palette.buckets.farthest_of.Given as goal

abbrev pub invariant-loop-bucket : goal.invariant-loop-bucket
invariant-loop-bucket l =
    IsGreatestOf (λ j. (get_or l.buckets j none).greatest) 0 l.bucket-index l.greatest

abbrev pub invariant-buckets : goal.invariant-buckets
invariant-buckets l = record {
  some : (j : ℕ) × (j < length l.buckets) × (l.best ≤ j)
      × (l.greatest ≤ (get_or l.buckets j none).greatest);
  first : (j : ℕ) → j < l.best → (get_or l.buckets j none).greatest < l.greatest;
}

abbrev pub decreases-buckets : goal.decreases-buckets
decreases-buckets l = length l.buckets - l.best

abbrev pub invariant-positions : goal.invariant-positions
invariant-positions l = record {
  from : 64 * l.best ≤ l.farthest;
  some : (k : ℕ) × IsInBucket l.codes l.best k × (l.farthest ≤ k)
      × (l.greatest ≤ get_or l.squares k 0);
  first : (k : ℕ) → 64 * l.best ≤ k → k < l.farthest → get_or l.squares k 0 < l.greatest;
}

abbrev pub decreases-positions : goal.decreases-positions
decreases-positions l = length l.squares - l.farthest
