use Rattle.std.{proofs.Common.{◌≡◌, ◌+◌, get_or, take, arith}, proofs.lemmas.List.Sums.sum_by_more}
use Rattle.std.specs.List.{sum}
use Rattle.sixel_palette.{proofs.refinement.Sums.sum_to-more, specs.inside.Refinement.near_count}
use Rattle.sixel_palette.proofs.palette.spread.near_pixels.Goals as goal

pub loop-position-preserved : goal.loop-position-preserved
loop-position-preserved c =
    let counts = c.args.counts.now in
    let at = c.loop-position.position in
    let h = c.loop-position.invariant in
    let all : sum (take (at + 1) counts) ≡ sum (take at counts) + get_or counts at 0 =
    sum_by_more (λ x. x) counts at 0 (omega (arith, c.loop-position-test.true)) in
    let more =
    sum_to-more (λ k. near_count (get_or counts k 0) (get_or c.args.squares.now k 0)) at in
    record {
      few = omega (arith, h.few, c.near_count-near.ensures.few, all);
      near = omega (arith, h.near, c.near_count-near.ensures.value, more);
    }
