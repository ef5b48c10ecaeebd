use Rattle.std.proofs.Common.{◌≡◌, arith, subst, sym, ◌∙◌}
use Rattle.sixel_palette.specs.declared.{dither.Dither.Dither, mapping.Tolerance.TheVariants.Auto}
use Rattle.sixel_palette.specs.Dithering.{HaveIndices, mapped_of}
use Rattle.sixel_palette.proofs.mapped_images.DiffusionLaws.{AreDiffused-held}
use Rattle.sixel_palette.proofs.mapped_images.{DitheredIndices.AreRows, PaletteError.error-none}
use Rattle.sixel_palette.proofs.mapped_images.PaletteError.{held-none}
use Rattle.std.proofs.lemmas.{Bool.Decides.nat_tests, Result.IfOk-weaker}
use Rattle.sixel_palette.proofs.dithering.mapped_indices.Goals as goal

pub returns-in-Diffusion : goal.returns-in-Diffusion
returns-in-Diffusion c =
    let image = c.args.image.now in
    let pixels = image.pixels.now in
    let colors = image.colors.now in
    let auto : c.args.mapping.tolerance ≡ Auto = grind arith in
    let exact = sym c.tolerance_of-tolerance.ensures ∙ c.if-tolerance-eq0.true in
    let m = mapped_of c.args.mapping image.width pixels colors in
    let three = c.channel_bytes.ensures.three in
    let rows : AreRows m = grind (arith, nat_tests) in
    IfOk-weaker c.indices-in-Diffusion.result _ _ (λ indices are.
    subst (λ (d : Dither). HaveIndices d m indices.items)
    (sym c.in-Diffusion.is) (AreDiffused-held m indices.items rows
    (record { three = three; bytes = c.channel_bytes.ensures.bytes })
    (held-none colors pixels three (error-none colors pixels c.in-Diffusion.strength (grind (
      arith,
      nat_tests,
    )))) exact are))
    c.indices-in-Diffusion.ensures
