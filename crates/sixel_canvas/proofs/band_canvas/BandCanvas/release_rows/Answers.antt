use Rattle.std.{proofs.Common.{◌+◌, ◌-◌, ap, ◌∙◌, refl, arith}, specs.Prelude.nat_lt}
use Rattle.std.specs.Prelude.{if◌then◌else◌}
use Rattle.sixel_canvas.specs.inside.BandCanvas.{BandCanvasState, band_canvas_shown}
use Rattle.sixel_canvas.{specs.inside.TaggedBand.tagged_cell}
use Rattle.sixel_canvas.proofs.ReleasedRows.{above_released, held_released}
use Rattle.sixel_canvas.proofs.band_canvas.BandCanvas.release_rows.Goals as goal

pub invariant_of-self : goal.invariant_of-self
invariant_of-self c =
    let all = c.self.inside in
    let count = c.saturating_sub-count.result in
    let rows = c.remove.new.self in
    let room =
    held_released all.top all.released count all.rows.rows rows.rows all.rows.width all.rows.room
    rows.room in
    grind (arith, room)

pub returns-clause-shown : goal.returns-clause-shown
returns-clause-shown c = λ column row.
    let all = c.self.inside in
    let count = c.saturating_sub-count.result in
    c.free_unused.ensures.shown column row
    ∙ ap (λ pixel. if nat_lt row all.top then pixel else tagged_cell all.band column
    (row - all.top))
    (above_released all.gone c.append_rows.new.gone all.rows c.remove.new.self all.released
    (all.released + count) count c.remove.ensures.sound c.self.invariant.logged refl
    c.remove.ensures.background c.append_rows.ensures.rows c.remove.ensures.shown column row)
    ∙ ap (λ (s : BandCanvasState). band_canvas_shown s column row) c.self.view_is
