use Rattle.std.{proofs.Common.{◌≡◌, arith}, proofs.lemmas.Bool.Decides.nat_tests}
use Rattle.sixel_canvas.{proofs.MovedRows.{laid_held, least_held}}
use Rattle.sixel_canvas.{proofs.MovedRows.moved_run, specs.inside.BandCanvas.band_canvas_state}
use Rattle.sixel_canvas.proofs.band_canvas.BandCanvasCanvas.draw.Goals as goal

pub returns-clause-paid : goal.returns-clause-paid
returns-clause-paid c = λ named runs before.
    let all = c.self.inside in
    let now = c.args.self.now in
    let band = c.draw.new.self in
    let from = c.args.from in
    let to = c.args.to in
    let state =
    band_canvas_state all.gone all.released all.rows band all.top all.held
    all.expected_width in
    let same_top : all.top ≡ now.top =
    grind (arith) in
    let laid =
    laid_held now c.ensure_columns.new.self state named runs to before.1
    c.in_ok-ensure_columns.ensures.laid
    (grind (arith)) (grind (arith)) (grind (arith)) in
    let least =
    least_held now named to to all.rows.moved runs before.1 before.2 (omega arith)
    (grind (arith, c.in_ok-ensure_columns.ensures.moved)) in (
      grind (arith),
      rw (← same_top)
          (moved_run state named from to c.args.bits runs laid c.self.invariant.above
          (grind (arith, nat_tests, least))),
      grind (arith, nat_tests, before.2),
    )
