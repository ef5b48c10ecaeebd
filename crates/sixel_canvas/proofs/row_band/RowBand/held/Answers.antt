use Rattle.std.proofs.Common.{◌≡◌, length, ap, ◌∙◌, add-one, arith}
use Rattle.sixel_canvas.specs.inside.RowBand.{least, line_in}
use Rattle.sixel_canvas.proofs.row_band.RowBand.held.Goals as goal

pub rows-preserved : goal.rows-preserved
rows-preserved c = λ background.
    rw add-one (omega (
      arith,
      c.min-held.ensures,
      c.rows.invariant background,
      c.len_of.ensures background,
    ))

pub returns : goal.returns
returns c = λ background.
    let all : c.rows.k ≡ 6 = omega (arith, c.rows-test.false) in
    c.rows.invariant background
    ∙ ap (least (λ k. length (line_in c.args.self.now background k).row.pixels)) all
