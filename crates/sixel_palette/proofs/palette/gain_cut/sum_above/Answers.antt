use Rattle.std.proofs.Common.{◌≡◌, ◌+◌, ◌-◌, sym, arith}
use Rattle.std.proofs.lemmas.List.Sums.{sum_by-drop_more, sum_by-take-drop}
use Rattle.sixel_palette.proofs.palette.gain_cut.sum_above.Goals as goal

pub plus-above-requires : goal.plus-above-requires
plus-above-requires c =
    let sums = c.args.sums.now in
    let value = c.loop-value.value in
    let next : value - 1 + 1 ≡ value = omega (arith, c.loop-value-test.true) in
    let here = c.index-sums-value.result in
    omega (
      arith,
      rw (sym c.index-sums-value.is, next) at
          (sum_by-drop_more (λ s. s.count) sums (value - 1) here (omega arith)),
      sum_by-take-drop (λ s. s.count) sums (value - 1),
      c.loop-value.invariant.above 0,
    )
