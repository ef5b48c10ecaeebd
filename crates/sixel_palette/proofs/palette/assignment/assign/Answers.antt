use Rattle.std.proofs.Common.{arith}
use Rattle.sixel_palette.proofs.refinement.Counts.{error_is, error-small}
use Rattle.sixel_palette.proofs.palette.assignment.assign.Goals as goal

pub summed-error-requires-clause-small : goal.summed-error-requires-clause-small
summed-error-requires-clause-small c =
    let error = error_is _ _ _ _ _ c.requires.weighed.same c.in_ok-traversal.ensures.relaxed in
    rw c.deref.ensures.value
    (omega (arith, error, error-small c.args.entries.now _ _ c.requires.weighed))
