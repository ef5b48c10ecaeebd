use Rattle.std.proofs.Common.{◌∷◌, ◌++◌, [], ap, arith, sym, ◌∙◌}
use Rattle.std.proofs.lemmas.List.FromFn.{map-range_with_len_more}
use Rattle.sixel_palette.specs.Palette.{color_at}
use Rattle.sixel.proofs.draw.palette_file.pixel_colors.Goals as goal

pub loop-pixel-preserved : goal.loop-pixel-preserved
loop-pixel-preserved c =
    let pixel = c.loop-pixel.pixel in
    let color = color_at c.args.pixels.now in
    c.in_ok-push.ensures.items
    ∙ ap (λ l. l ++ color pixel ∷ []) c.loop-pixel.invariant
    ∙ sym (map-range_with_len_more color 0 pixel pixel (omega arith))
