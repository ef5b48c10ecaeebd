use Rattle.std.{proofs.Common.{List, ℕ, arith, subst, ◌∙◌}, specs.Prelude.IfOk}
use Rattle.sixel_palette.{proofs.mapped_images.MovedPixels.moved-length, specs.Dithering.HaveChoice}
use Rattle.sixel_palette.{specs.Dithering.with_pixels, specs.inside.Mapped.mapped_value}
use Rattle.sixel_palette.proofs.dithering.ordered.ordered_indices.Goals as goal

pub chosen_indices-requires-clause-image : goal.chosen_indices-requires-clause-image
chosen_indices-requires-clause-image c =
    let value = c.deref.ensures.value in
    let image = c.requires.image in
    grind (arith, c.in_ok-moved.ensures, moved-length, image.whole, image.some, image.strength)

pub returns : goal.returns
returns c =
    subst
    (λ (pixels : List ℕ).
    IfOk c.chosen_indices.result (λ chosen.
    HaveChoice (with_pixels (mapped_value c.args.image.now) pixels) chosen.items))
    (c.deref.ensures.value ∙ c.in_ok-moved.ensures)
    c.chosen_indices.ensures
