use Rattle.std.proofs.{Common.{◌≡◌, get_or, inl, inr, arith}, lemmas.Bool.cases_lt}
use Rattle.sixel_palette.proofs.nearest_entries.SixteenEntries.{IsIndex-keys}
use Rattle.sixel_palette.proofs.nearest_entries.SixteenEntries.{byte_lanes}
use Rattle.sixel_palette.proofs.dithering.sixteen_entries.SixteenEntries.index_of.Goals as goal

pub loop-lane-preserved : goal.loop-lane-preserved
loop-lane-preserved c =
    let lane = c.loop-lane.lane in
    let h = c.loop-lane.invariant in
    rw c.min-least.ensures (record {
      lower = λ j l. elim (cases_lt j lane) [
        | inl below ↦ omega (arith, h.lower j below)
        | inr above ↦ let e : j ≡ lane = omega (arith, above, l) in rw e (omega arith)
      ];
      reached = elim (cases_lt (get_or c.keys-keys.result lane 0) c.loop-lane.least) [
        | inl below ↦ (lane, omega arith, omega (arith, below))
        | inr above ↦ (h.reached.0, h.reached.1, omega (arith, h.reached.2, above))
      ];
    })

pub returns-2-clause-index : goal.returns-2-clause-index
returns-2-clause-index c = λ m all same are.
    let (i, l, reached) = c.loop-lane.invariant.reached in
    IsIndex-keys m c.args.self.now c.args.target c.keys-keys.result c.args.before c.args.above i
    c.loop-lane.least all are c.requires.before c.requires.above
    (byte_lanes c.args.target c.fits-target.1)
    (λ k lk.
    let key = c.keys-keys.ensures m.colors m.tolerance k are lk in
    grind (arith, c.lane_of.ensures, c.lane_of-2.ensures)) l reached
    (λ k lk. c.loop-lane.invariant.lower k (omega (arith, lk, c.loop-lane-test.false)))
