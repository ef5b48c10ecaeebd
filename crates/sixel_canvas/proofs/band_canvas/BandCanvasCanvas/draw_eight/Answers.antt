use Rattle.std.proofs.Common.{◌≡◌, ◌≤◌, ◌+◌, ◌*◌, ℕ, List, max, length, length-take, take, arith}
use Rattle.std.proofs.lemmas.Bool.Decides.{nat_tests}
use Rattle.sixel_canvas.specs.{Drawn.{Run, with_sixels}, inside.BandCanvas.band_canvas_state}
use Rattle.sixel_canvas.specs.{inside.BandCanvas.least_width, inside.TaggedBand.capacity}
use Rattle.sixel_canvas.proofs.{MovedRows.{laid_held, laid_wider}}
use Rattle.sixel_canvas.proofs.{MovedRows.{least_held, least_sixels, moved_more}, Runs.above_here}
use Rattle.sixel_canvas.proofs.Runs.{edges, lowest_here, paid-sixels}
use Rattle.sixel_canvas.proofs.band_canvas.BandCanvasCanvas.draw_eight.Goals as goal

pub returns-clause-paid : goal.returns-clause-paid
returns-clause-paid c = λ named runs before.
    let now = c.args.self.now in
    let band = c.draw_eight.new.self in
    let right = c.args.from + c.args.len in
    let few : c.args.len ≤ length c.args.sixels = grind (arith, c.requires.few) in
    let same_top : c.self.inside.top ≡ now.top =
    grind (arith) in
    let cap : capacity band ≤ max (capacity now.band) (2 * right + 16) = grind (arith) in
    let painted : band.painted ≤ now.band.painted + 264 =
    grind (arith, c.draw_eight.ensures.painted) in
    let extent : band.pixels.extent ≡ max now.band.pixels.extent right =
    grind (arith, c.draw_eight.ensures.extent) in
    let tagged : band.tags.extent ≡ now.band.tags.extent =
    grind (arith) in
    let all = c.self.inside in
    let state =
    band_canvas_state all.gone all.released all.rows band all.top all.held
    all.expected_width in
    let more : List Run = with_sixels c.args.from (take c.args.len c.args.sixels) all.top runs in
    let edge = edges c.args.from c.args.sixels all.top runs c.args.len c.requires.some few in
    let wide : ℕ = max (least_width named runs) right in
    let laid =
    laid_held now c.ensure_columns.new.self state named runs right before.1
    c.in_ok-ensure_columns.ensures.laid
    (grind (arith)) (grind (arith)) (grind (arith)) in
    let sixels = take c.args.len c.args.sixels in
    let least =
    least_held now named (c.args.from + 1) right all.rows.moved runs before.1 before.2
    (omega (arith, c.requires.some))
    (grind (arith, c.in_ok-ensure_columns.ensures.moved)) in (
      rw same_top (paid-sixels _ _ _ _ _ _ _ _ now.top c.args.from c.args.len c.args.sixels runs
          before.0 c.requires.some few c.requires.few cap
          (grind (arith, c.draw_eight.ensures.least)) painted extent tagged),
      rw (← same_top) (moved_more state named more
          (laid_wider state wide (least_width named more) laid (omega (arith, edge)))
          c.self.invariant.above
          (lowest_here c.args.from c.args.sixels all.top runs c.args.len c.requires.some few)
          (least_sixels named all.released c.args.from all.top sixels runs all.rows.moved
          (grind (arith, length-take)) (grind (arith, nat_tests, least)))),
      grind (arith, before.2, above_here c.args.from sixels now.top runs),
    )
