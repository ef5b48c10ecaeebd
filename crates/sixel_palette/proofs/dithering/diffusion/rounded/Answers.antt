use Rattle.std.proofs.{Common.arith, lemmas.Simd.Each1-from_get_or}
use Rattle.sixel_palette.proofs.mapped_images.DiffusionLanes.{lanes-cast, lanes-rounded}
use Rattle.sixel_palette.proofs.dithering.diffusion.rounded.Goals as goal

pub overflow_cast-result : goal.overflow_cast-result
overflow_cast-result c =
    let all = lanes-rounded c.args.sum c.fits-sum.0 c.fits-sum.1 in
    Each1-from_get_or _ _ 0 (λ i l. record { fits = omega (arith, all.1 i) })

pub returns : goal.returns
returns c = lanes-cast _ _ (lanes-rounded c.args.sum c.fits-sum.0 c.fits-sum.1).0
