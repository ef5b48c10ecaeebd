use Rattle.std.proofs.Common.{ℕ, ◌+◌, ◌*◌, length, get_or, arith}
use Rattle.sixel_palette.proofs.refinement.Sums.{sum_to-more, sum_to-part}
use Rattle.sixel_palette.proofs.palette.assignment.summed.Goals as goal

pub overflow_add-sum : goal.overflow_add-sum
overflow_add-sum c =
    let f : ℕ → ℕ = λ k. get_or c.args.counts.now k 0 * get_or c.args.squares.now k 0 in
    let part = sum_to-part f (c.loop-position.position + 1) (length c.args.counts.now) in
    rw (c.from.ensures, c.from-in-loop-position.ensures)
    (omega (arith, part (omega arith), sum_to-more f c.loop-position.position))
