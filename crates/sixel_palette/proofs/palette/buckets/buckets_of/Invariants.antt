use Rattle.std.proofs.Common.{◌≡◌, ℕ, ◌<◌, length, get_or}
use Rattle.sixel_palette.specs.{declared.palette.buckets.Bucket.Bucket, inside.Buckets.IsBucket}
use Rattle.sixel_palette.proofs.palette.buckets.buckets_of.Given as goal

abbrev pub invariant-loop-position : goal.invariant-loop-position
invariant-loop-position l = record {
  size : length l.buckets.items ≡ l.position;
  each : (j : ℕ) (d : Bucket) → j < l.position
      → IsBucket l.codes l.squares j (get_or l.buckets.items j d);
}
