use Rattle.std.proofs.{Common.{◌≡◌, ◌+◌, ◌*◌, get_or, take, arith}, lemmas.List.Sums.sum_by_more}
use Rattle.std.specs.List.{sum}
use Rattle.sixel_palette.specs.{ColorSums.share, inside.Codes.color_of}
use Rattle.sixel_palette.proofs.refinement.Sums.{sum_to-more}
use Rattle.sixel_palette.proofs.palette.spread.sums_of.Goals as goal

pub loop-position-preserved : goal.loop-position-preserved
loop-position-preserved c =
    let codes = c.args.codes.now in
    let counts = c.args.counts.now in
    let at = c.loop-position.position in
    let h = c.loop-position.invariant in
    let all : sum (take (at + 1) counts) ≡ sum (take at counts) + get_or counts at 0 =
    sum_by_more (λ x. x) counts at 0 (omega (arith, c.loop-position-test.true)) in
    record {
      few = omega (arith, h.few, c.plus-sums.ensures.count, c.of.ensures.count, all);
      sums = λ k.
          let more =
          sum_to-more (λ j. get_or counts j 0 * share k (color_of (get_or codes j 0))) at in
          let own = rw c.color_of.ensures at (c.of.ensures.sums k) in
          omega (arith, h.sums k, c.plus-sums.ensures.sums k, own, more);
    }
