use Rattle.std.proofs.Common.{◌∙◌, ◌*◌, nat_le}
use Rattle.sixel_palette.proofs.refinement.Counts.{counted-all, near_is}
use Rattle.sixel_palette.proofs.palette.spread.is_flat.Goals as goal

pub returns : goal.returns
returns c = λ entries codes indices same near.
    let all = c.total_of.ensures ∙ counted-all codes c.args.counts.now same in
    let close =
    c.near_pixels.ensures.near
    ∙ near_is entries codes c.args.counts.now c.args.squares.now indices same near in
    λ i. nat_le (all i) (4 * close i)
