use Rattle.std.proofs.Common.{refl, arith}
use Rattle.sixel_palette.proofs.traversal.Relaxation.{greatest_more}
use Rattle.sixel_palette.proofs.palette.buckets.greatest_in.Goals as goal

pub loop-position-preserved : goal.loop-position-preserved
loop-position-preserved c =
    rw c.max-greatest.ensures
    (greatest_more _ _ _ _ _ _ (omega arith) refl (λ k l. refl) c.loop-position.invariant)
