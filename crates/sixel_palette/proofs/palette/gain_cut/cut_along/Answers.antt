use Rattle.std.proofs.Common.{◌≡◌, ◌+◌, ◌-◌, length, drop, sym, ◌∙◌, arith}
use Rattle.std.proofs.lemmas.List.{length-drop, length-take}
use Rattle.sixel_palette.specs.GainCut.{cut_gain}
use Rattle.sixel_palette.proofs.refinement.Cuts.{best_to-same, gains_of_box, no_gain_above}
use Rattle.sixel_palette.proofs.palette.gain_cut.cut_along.Goals as goal

pub returns : goal.returns
returns c = λ pixels box are.
    let sides = c.sides_of-sides.result in
    let is = c.sides_of-sides.ensures in
    let size : length c.gather.new.sums ≡ sides.high + 1 - sides.low =
    omega (
      arith,
      length-take (sides.high + 1 - sides.low) (drop sides.low c.args.lower.now),
      length-drop sides.low c.args.lower.now,
    ) in
    let gains = gains_of_box pixels box _ _ _ _ are is.within is.order size c.gather.ensures.sums in
    c.best_cut.ensures (cut_gain pixels box c.args.channel) gains
    ∙ sym (best_to-same _ _ _ _ _ (omega (arith, is.high))
    (λ value l m. no_gain_above pixels box _ _ _ _ are is.within l))
