use Rattle.std.proofs.{Common.{take, get_or, arith}, lemmas.List.take_more}
use Rattle.sixel_palette.proofs.nearest_entries.Keys.{none, least_key-nil, least_key-push}
use Rattle.sixel_palette.proofs.palette.nearest.cube.Cube.greatest_key.Goals as goal

pub loop-entry-init : goal.loop-entry-init
loop-entry-init c = λ c' box. omega (arith, least_key-nil c')

pub loop-entry-preserved : goal.loop-entry-preserved
loop-entry-preserved c = λ c' box.
    let entries = c.args.entries.now in
    let i = c.loop-entry.entry-index in
    rw (take_more entries i none (omega arith)) (omega (
      arith,
      least_key-push (take i entries) (get_or entries i none) c',
      c.greatest_gap.ensures.greatest c' box,
      c.loop-entry.invariant c' box,
    ))
