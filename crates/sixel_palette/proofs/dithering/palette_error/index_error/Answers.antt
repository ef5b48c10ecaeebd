use Rattle.std.{proofs.Common.{arith, refl}, proofs.lemmas.Bool.Decides.nat_tests}
use Rattle.sixel_palette.proofs.mapped_images.KeptEntries.{nearest-distance}
use Rattle.sixel_palette.proofs.mapped_images.PaletteError.{number-light}
use Rattle.sixel_palette.{proofs.refinement.Sums.sum_to-more, specs.Refined.sum_to}
use Rattle.sixel_palette.proofs.dithering.palette_error.index_error.Goals as goal

pub loop-pixel-init : goal.loop-pixel-init
unfolding sum_to
loop-pixel-init c =
    record { sum = refl; small = omega arith; count = refl; most = omega arith }

pub loop-pixel-preserved : goal.loop-pixel-preserved
loop-pixel-preserved c =
    let near = c.requires in
    let opaque = c.is_opaque.ensures.opaque in
    grind (arith, nat_tests, near.opaque, sum_to-more, nearest-distance, number-light)
