use Rattle.std.proofs.Common.{◌-◌, arith}
use Rattle.sixel_palette.proofs.colors.Distance.{square-le}
use Rattle.sixel_palette.proofs.palette.color_sums.mean_gap.Goals as goal

pub returns-clause-small : goal.returns-clause-small
returns-clause-small c =
    let gap = c.abs_diff-gap.result in
    omega (arith, square-le gap 65280 (65280 - gap) (omega arith))
