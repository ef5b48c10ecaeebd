use Rattle.std.proofs.Common.{◌≡◌, ℕ, ◌+◌, ◌*◌, ◌∙◌, ap, drop, arith}
use Rattle.sixel_canvas.specs.inside.RowsState.{RowsState, final}
use Rattle.sixel_canvas.proofs.ReleasedRows.{dropped, final_removed, removed}
use Rattle.sixel_canvas.proofs.final_rows.FinalRows.remove.Goals as goal

front_is : (width : ℕ) → 4 * (0 * width) ≡ 0
front_is width = omega arith

pub invariant_of-self : goal.invariant_of-self
invariant_of-self c =
    let all = c.self.inside in
    let count = c.min-count.result in
    let is =
    removed all.bytes.items all.width all.rows all.free count (omega (arith, c.min-count.ensures))
    c.self.invariant.1 c.self.invariant.0.fits in
    grind (arith, dropped, is)

pub invariant_of-self-else-self : goal.invariant_of-self-else-self
invariant_of-self-else-self c =
    let all = c.self.inside in
    let count = c.min-count.result in
    let is =
    removed all.bytes.items all.width all.rows all.free count (omega (arith, c.min-count.ensures))
    c.self.invariant.1 c.self.invariant.0.fits in
    grind (arith, dropped, is)

pub returns-then-self-clause-shown : goal.returns-then-self-clause-shown
returns-then-self-clause-shown c = λ column row.
    let all = c.self.inside in
    let count = c.min-count.result in
    let bytes = drop (4 * (all.free * all.width)) all.bytes.items in
    let front = ap (λ n. drop n c.remove_front.new.bytes.items) (front_is all.width) in
    final_removed bytes (drop (4 * (0 * all.width)) c.remove_front.new.bytes.items) all.background
    all.width all.rows count c.args.count column row c.min-count.ensures
    (front ∙ c.remove_front.ensures.items ∙ dropped all.bytes.items all.width all.free count)
    ∙ ap (λ (s : RowsState). final s column (row + c.args.count)) c.self.view_is
