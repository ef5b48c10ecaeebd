use Rattle.std.proofs.{Common.{◌+◌, ◌*◌, length, arith}, lemmas.Bool.Decides.nat_tests}
use Rattle.std.specs.Prelude.{IsOk}
use Rattle.sixel_canvas.specs.inside.RowCanvas.{band_line}
use Rattle.sixel_canvas.proofs.{RowBytes.when_ok, RowCosts.{least-each, least-grown}}
use Rattle.sixel_canvas.proofs.row_canvas.RowCanvasCanvas.column.Goals as goal

-- each of the six rows has the column, so that drawing does not fail
is_ok : (c : goal.After-draw_band-drawn) → IsOk c.draw_band-drawn.result
is_ok c = grind (arith, nat_tests, least-each)

pub returns-clause-held : goal.returns-clause-held
returns-clause-held c =
    let old = c.args.self.now in
    let drawn = c.draw_band-drawn in
    let new = drawn.new.self in
    least-grown (λ k. length (band_line old k).row.pixels)
    (λ k. length (band_line new k).row.pixels) 6
    (λ k six.
    let grown = when_ok drawn.result (is_ok c) drawn.ensures.grown (6 * old.band + k) in
    grind (arith, nat_tests, drawn.ensures.band))
