use Rattle.std.{proofs.Common.arith, proofs.lemmas.List.Sums.sum_by_more_le, specs.List.sum_by}
use Rattle.sixel_canvas.specs.inside.RowCanvas.{row_canvas_state}
use Rattle.sixel_canvas.{specs.inside.TaggedRow.TaggedRowState, proofs.RowCosts.band_appended_most}
use Rattle.sixel_canvas.proofs.row_canvas.RowCanvas.paints.Goals as goal

pub overflow_add-appended : goal.overflow_add-appended
overflow_add-appended c =
    let more =
    sum_by_more_le (sum_by (λ (line : TaggedRowState). line.appended)) c.deref-band-items.result.now
    c.counted.band-index c.band-item.result c.counted-test.true in
    let all = c.self.inside in
    let state = row_canvas_state all.background all.bands.items all.band all.paints in
    let most = band_appended_most state c.self.invariant in grind (arith)
