use Rattle.std.proofs.Common.{◌≡◌, ℕ, ◌*◌, List, [], ◌∷◌, ◌++◌, length}
use Rattle.sixel_palette.specs.inside.{Buckets.AreBuckets, Nearest.AreNearest}
use Rattle.sixel_palette.proofs.traversal.Relaxation.{AreRelaxedIn, AreOld}
use Rattle.sixel_palette.proofs.palette.buckets.relax_buckets.Given as goal

abbrev pub invariant-loop-position : goal.invariant-loop-position
invariant-loop-position l = record {
  relaxed : (entries : List (List ℕ)) → length entries ≡ l.entry.index
      → AreNearest entries l.codes l.initial.squares l.initial.indices
      → AreRelaxedIn (entries ++ l.entry.color ∷ []) l.codes l.squares l.indices 0
      (64 * l.position);
  squares : AreOld l.initial.squares l.squares 0 (64 * l.position);
  indices : AreOld l.initial.indices l.indices 0 (64 * l.position);
  buckets : AreBuckets l.codes l.squares l.buckets;
}
