use Rattle.std.proofs.{Common.{◌-◌, ◌<◌, ◌≤◌, ⊎_elim, arith}, lemmas.Bool.cases_lt}
use Rattle.std.specs.Int.{abs_diff}
use Rattle.sixel_palette.proofs.colors.Distance.{square-le}
use Rattle.sixel_palette.proofs.palette.buckets.Interval.greatest_gap.Goals as goal

pub returns-clause-greatest : goal.returns-clause-greatest
returns-clause-greatest c x interval =
    let value = c.args.value in
    let gap = abs_diff value x in
    let low = abs_diff c.from-own.result c.from.result in
    let high = abs_diff c.from-own.result c.from-2.result in
    ⊎_elim (λ (l : value < x).
    omega (arith, square-le gap high (high - gap) (omega (arith, interval.high))))
    (λ (l : x ≤ value).
    omega (arith, square-le gap low (low - gap) (omega (arith, interval.low)))) (cases_lt value x)
