use Rattle.std.proofs.Common.{◌≡◌, ◌*◌, get_or}
use Rattle.sixel_palette.specs.Refined.{sum_to}
use Rattle.sixel_palette.proofs.palette.assignment.summed.Given as goal

abbrev pub invariant-loop-position : goal.invariant-loop-position
invariant-loop-position l =
    l.sum ≡ sum_to (λ k. get_or l.counts k 0 * get_or l.squares k 0) l.position
