use Rattle.std.proofs.Common.{◌∙◌, arith}
use Rattle.std.proofs.lemmas.{Grind.common_steps, List.Elements.All-push}
use Rattle.sixel_canvas.specs.inside.TaggedRow.{IsTaggedRow, empty_tagged_row}
use Rattle.sixel_canvas.proofs.RowCosts.{empty_line}
use Rattle.sixel_canvas.proofs.row_band.RowBand.add_rows.Goals as goal

pub made-preserved : goal.made-preserved
made-preserved c =
    let empty = empty_tagged_row c.args.background in
    let before = c.made.invariant in (
      omega (arith, before.0, c.push_reserved.ensures.len),
      omega (arith, c.made-test.true),
      c.push_reserved.ensures.capacity ∙ before.2,
      grind (arith, common_steps),
      rw (c.push_reserved.ensures.items, c.new.ensures.empty)
          (All-push IsTaggedRow c.made.rows.items empty before.4 (empty_line c.args.background)),
    )
