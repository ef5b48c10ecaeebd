use Rattle.std.proofs.Common.{◌≡◌, ℕ, ◌+◌, ◌*◌, List, [], ◌∷◌, ◌++◌, length}
use Rattle.sixel_palette.specs.inside.Buckets.{AreNearestIn}
use Rattle.sixel_palette.proofs.traversal.Relaxation.{AreRelaxedIn, AreOld}
use Rattle.sixel_palette.proofs.traversal.Lanes.{AreGreatestLanes}
use Rattle.sixel_palette.proofs.palette.relaxation.relax_whole_bucket.Given as goal

abbrev pub invariant-loop-eight : goal.invariant-loop-eight
invariant-loop-eight l = record {
  relaxed : (entries : List (List ℕ)) → length entries ≡ l.entry.index
      → AreNearestIn entries l.codes l.fn.squares l.fn.indices l.bucket
      → AreRelaxedIn (entries ++ l.entry.color ∷ []) l.codes l.squares l.indices (64 * l.bucket)
      (64 * l.bucket + 8 * l.eight);
  squares : AreOld l.fn.squares l.squares (64 * l.bucket) (64 * l.bucket + 8 * l.eight);
  indices : AreOld l.fn.indices l.indices (64 * l.bucket) (64 * l.bucket + 8 * l.eight);
  eight : length l.greatest ≡ 8;
  greatest : AreGreatestLanes l.squares (64 * l.bucket) (8 * l.eight) l.greatest;
}
