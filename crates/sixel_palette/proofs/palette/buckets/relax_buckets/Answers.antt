use Rattle.std.proofs.Common.{refl, arith}
use Rattle.sixel_palette.proofs.traversal.Buckets.{none}
use Rattle.sixel_palette.proofs.traversal.Relaxation.{buckets_relaxed, relaxed_bucket, old_bucket}
use Rattle.sixel_palette.proofs.traversal.Relaxation.{nearest_still, nearest_far}
use Rattle.sixel_palette.proofs.palette.buckets.relax_buckets.Goals as goal

pub relax_bucket-greatest-requires-clause-some : goal.relax_bucket-greatest-requires-clause-some
relax_bucket-greatest-requires-clause-some c =
    let position = c.loop-position.position in
    let bucket = c.loop-position.invariant.buckets.each position none (omega arith) in
    let reached = bucket.greatest.reached.1 in
    omega (arith, reached.from, reached.within)

pub loop-position-preserved : goal.loop-position-preserved
loop-position-preserved c =
    let position = c.loop-position.position in
    let squares = c.loop-position.squares in
    let indices = c.loop-position.indices in
    let buckets = c.loop-position.buckets in
    let h = c.loop-position.invariant in
    elim c.if-not-is_beyond.branch [
      | goal.then-not-is_beyond w ↦ (
          let relaxed = w.relax_bucket-greatest.ensures in
          rw (w.squares-is, w.indices-is, w.buckets-is) (record {
            relaxed = λ entries at kept.
                relaxed_bucket _ _ _ _ _ _ _ (h.relaxed entries at kept) relaxed.squares
                relaxed.indices
                (relaxed.near entries at (nearest_still _ _ _ _ _ _ _ h.squares h.indices kept));
            squares = old_bucket _ _ _ _ h.squares relaxed.squares;
            indices = old_bucket _ _ _ _ h.indices relaxed.indices;
            buckets =
                buckets_relaxed _ _ _ _ _ _ _ (omega arith) h.buckets relaxed.squares
                (h.buckets.each position _ (omega arith)) relaxed.greatest;
          }))
      | goal.else-not-is_beyond w ↦
          rw (w.squares-is, w.indices-is, w.buckets-is) (record {
            relaxed = λ entries at kept.
                relaxed_bucket _ _ _ _ _ _ _ (h.relaxed entries at kept) (λ k _. refl) (λ k _. refl)
                (nearest_far _ _ _ _ _ _ _ (h.buckets.each position _ (omega arith))
                (c.is_beyond.ensures w.if-not-is_beyond.false)
                (nearest_still _ _ _ _ _ _ _ h.squares h.indices kept));
            squares = old_bucket _ _ _ _ h.squares (λ k _. refl);
            indices = old_bucket _ _ _ _ h.indices (λ k _. refl);
            buckets = h.buckets;
          })
    ]
