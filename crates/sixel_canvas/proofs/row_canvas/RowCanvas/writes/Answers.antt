use Rattle.std.proofs.{Common.arith, lemmas.List.Sums.{sum_by-take-le, sum_by_more_le}}
use Rattle.std.specs.List.{sum_by}
use Rattle.sixel_canvas.specs.{inside.RowCanvas.row_canvas_state, inside.TaggedRow.TaggedRowState}
use Rattle.sixel_canvas.proofs.RowCosts.{band_writes_most}
use Rattle.sixel_canvas.proofs.row_canvas.RowCanvas.writes.Goals as goal

pub overflow_add-writes : goal.overflow_add-writes
overflow_add-writes c =
    let more =
    sum_by_more_le (sum_by (λ (line : TaggedRowState). line.row.writes))
    c.deref-band-items.result.now c.counted.band-index c.band-item.result c.counted-test.true in
    let all = c.self.inside in
    let state = row_canvas_state all.background all.bands.items all.band all.paints in
    let most = band_writes_most state c.self.invariant in grind (arith)

pub returns-clause-at_most : goal.returns-clause-at_most
returns-clause-at_most c =
    let less =
    sum_by-take-le (sum_by (λ (line : TaggedRowState). line.row.writes))
    c.deref-band-items.result.now c.counted.band-index in
    let all = c.self.inside in
    let state = row_canvas_state all.background all.bands.items all.band all.paints in
    let most = band_writes_most state c.self.invariant in grind (arith)
