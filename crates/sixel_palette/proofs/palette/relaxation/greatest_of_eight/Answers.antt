use Rattle.std.proofs.Common.{refl, arith}
use Rattle.sixel_palette.proofs.traversal.Relaxation.{greatest_more}
use Rattle.sixel_palette.proofs.palette.relaxation.greatest_of_eight.Goals as goal

pub loop-lane-preserved : goal.loop-lane-preserved
loop-lane-preserved c =
    rw c.max-greatest.ensures
    (greatest_more _ _ _ _ _ _ (omega arith) refl (λ j l. refl) c.loop-lane.invariant)
