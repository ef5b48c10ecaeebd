use Rattle.std.{proofs.Common.{◌-◌, ◌≤◌, ap, ◌∙◌, arith}, specs.Prelude.{nat_lt, if◌then◌else◌}}
use Rattle.sixel_canvas.proofs.ReleasedRows.{above_clear, above_appended}
use Rattle.sixel_canvas.specs.inside.BandCanvas.{BandCanvasState, band_canvas_shown}
use Rattle.sixel_canvas.{specs.inside.ReleasedRows.released_pixel, specs.inside.RowsState.final}
use Rattle.sixel_canvas.specs.inside.TaggedBand.{tagged_cell}
use Rattle.sixel_canvas.proofs.band_canvas.BandCanvas.finish_rows.Goals as goal

pub returns-clause-shown : goal.returns-clause-shown
returns-clause-shown c = λ column row.
    let all = c.self.inside in
    let gone = released_pixel all.gone all.rows.background column row in
    let seen = ap (λ (s : BandCanvasState). band_canvas_shown s column row) c.self.view_is in
    elim c.if-extent-gt0.branch [
      | goal.then-extent-gt0 w ↦
          let le : all.released ≤ all.top = omega (arith, c.self.invariant.above) in
          rw w.self-inside-is
          (ap
          (λ background.
          if nat_lt row all.released then released_pixel all.gone background column row
          else final w.append_band.new.rows column (row - all.released))
          w.append_band.ensures.rows_background
          ∙ above_appended all.released all.top gone (final all.rows column (row - all.released))
          (final w.append_band.new.rows column (row - all.released)) (tagged_cell all.band column)
          row
          le (w.append_band.ensures.shown column (row - all.released)) ∙ seen)
      | goal.else-extent-gt0 w ↦
          rw w.self-inside-is
          (above_clear all.rows all.released all.top gone (tagged_cell all.band column) column row
          c.self.invariant.above
          (grind (arith)) ∙ seen)
    ]
