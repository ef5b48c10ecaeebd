use Rattle.std.proofs.Common.{◌*◌, get_or}
use Rattle.sixel_palette.proofs.traversal.Relaxation.{IsGreatestOf}
use Rattle.sixel_palette.proofs.palette.buckets.greatest_in.Given as goal

abbrev pub invariant-loop-position : goal.invariant-loop-position
invariant-loop-position l =
    IsGreatestOf (λ k. get_or l.squares k 0) (64 * l.bucket) l.position l.greatest
