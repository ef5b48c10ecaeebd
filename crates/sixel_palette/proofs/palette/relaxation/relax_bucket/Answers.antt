use Rattle.std.proofs.Common.{◌≡◌, ℕ, ◌<◌, ◌++◌, [], ◌∷◌, List, length, get_or, arith}
use Rattle.std.proofs.lemmas.{Bool.Decides.nat_tests, List.get_or-set_same}
use Rattle.sixel_palette.specs.inside.{Buckets.AreNearestIn, Codes.color_of, Nearest.IsNearestEntry}
use Rattle.sixel_palette.proofs.traversal.Relaxation.{get_or-set_before, greatest_more, old_more}
use Rattle.sixel_palette.proofs.traversal.Relaxation.{relaxed_more}
use Rattle.sixel_palette.proofs.palette.relaxation.relax_bucket.Goals as goal

-- the nearest entry of the color at the position, after the new entry
near_at : (c : goal.After-max-greatest) (entries : List (List ℕ))
    → length entries ≡ c.args.entry.index
    → AreNearestIn entries c.args.codes.now c.args.squares.now c.args.indices.now c.args.bucket
    → IsNearestEntry (entries ++ c.args.entry.color ∷ [])
    (color_of (get_or c.args.codes.now c.loop-position.position 0)) c.with-near.result
near_at c entries at kept = grind (arith, nat_tests)

pub loop-position-preserved : goal.loop-position-preserved
loop-position-preserved c =
    let position = c.loop-position.position in
    let squares = c.loop-position.squares in
    let indices = c.loop-position.indices in
    let held : position < length squares = omega (arith, c.min-end.ensures, c.requires.squares) in
    let also : position < length indices = omega (arith, c.min-end.ensures, c.requires.indices) in
    record {
      relaxed = λ entries at kept.
          relaxed_more _ _ _ _ _ _ _ held also (c.loop-position.invariant.relaxed entries at kept)
          (near_at c _ at kept);
      squares = old_more _ _ _ _ _ (omega arith) c.loop-position.invariant.squares;
      indices = old_more _ _ _ _ _ (omega arith) c.loop-position.invariant.indices;
      greatest =
          rw c.max-greatest.ensures (greatest_more _ _ _ _ _ _ (omega arith)
          (get_or-set_same squares position _ 0 held)
          (λ k l. get_or-set_before squares position _ k l) c.loop-position.invariant.greatest);
    }
