use Rattle.std.{proofs.Common.{[], ◌∙◌, arith}, proofs.lemmas.Grind.common_steps}
use Rattle.std.proofs.lemmas.List.Elements.{All-push}
use Rattle.sixel_canvas.{proofs.RowCosts.empty_band, specs.inside.RowBand.IsRowBand}
use Rattle.sixel_canvas.proofs.row_canvas.add_bands.Goals as goal

pub made-preserved : goal.made-preserved
made-preserved c =
    let before = c.made.invariant in (
      omega (arith, before.0, c.push_reserved.ensures.len),
      omega (arith, c.made-test.true),
      omega (arith, before.2, c.push_reserved.ensures.capacity),
      c.push_reserved.ensures.capacity ∙ before.3,
      grind (arith, common_steps),
      λ sound.
          rw (c.push_reserved.ensures.items, c.new.ensures)
          (All-push IsRowBand c.made.bands.items [] (before.5 sound) empty_band),
    )
