use Rattle.std.proofs.{Common.{◌≡◌, ◌+◌, ◌-◌, arith, ℕ}, lemmas.Bool.Decides.nat_tests}
use Rattle.sixel_encoder.proofs.compact_form.FillSteps.{union-more, union-none}
use Rattle.sixel_encoder.proofs.segment_rows.union_of.Goals as goal

pub loop-column-init : goal.loop-column-init
loop-column-init c = grind (arith, nat_tests, union-none c.args.row.now c.args.from)

pub loop-column-preserved : goal.loop-column-preserved
loop-column-preserved c =
    let n : ℕ = c.loop-column.column - c.args.from in
    let low = c.loop-column.auto.column in
    let more : c.loop-column.column + 1 - c.args.from ≡ n + 1 = omega (arith, low) in
    grind (arith, nat_tests, union-more, c.loop-column.invariant)
