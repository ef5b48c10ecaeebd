use Rattle.std.proofs.{Common.{[], length, ap, ◌∙◌, arith}, lemmas.List.get_or_default}
use Rattle.sixel_canvas.specs.inside.TaggedRow.{TaggedRowState, empty_tagged_row}
use Rattle.sixel_canvas.proofs.row_band.draw_row.Goals as goal

pub returns-clause-held : goal.returns-clause-held
returns-clause-held c = λ single fits.
    c.draw.ensures.held single (omega (
      arith,
      fits [],
      ap (λ (l : TaggedRowState). length l.row.pixels)
          (c.index_mut.ensures.value
          ∙ get_or_default c.args.rows.now.items c.args.row c.index_mut.result.now
          (empty_tagged_row []) (omega (arith, c.requires.made, c.args.rows.now.ok.0))),
    ))
