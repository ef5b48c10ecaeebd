use Rattle.std.proofs.Common.{◌≡◌, ℕ, ◌*◌, List, [], ◌∷◌, ◌++◌, length, get_or}
use Rattle.sixel_palette.specs.inside.Buckets.{AreNearestIn}
use Rattle.sixel_palette.proofs.traversal.Relaxation.{AreRelaxedIn, AreOld, IsGreatestOf}
use Rattle.sixel_palette.proofs.palette.relaxation.relax_bucket.Given as goal

abbrev pub invariant-loop-position : goal.invariant-loop-position
invariant-loop-position l = record {
  relaxed : (entries : List (List ℕ)) → length entries ≡ l.entry.index
      → AreNearestIn entries l.codes l.initial.squares l.initial.indices l.bucket
      → AreRelaxedIn (entries ++ l.entry.color ∷ []) l.codes l.squares l.indices (64 * l.bucket)
      l.position;
  squares : AreOld l.initial.squares l.squares (64 * l.bucket) l.position;
  indices : AreOld l.initial.indices l.indices (64 * l.bucket) l.position;
  greatest : IsGreatestOf (λ k. get_or l.squares k 0) (64 * l.bucket) l.position l.greatest;
}
