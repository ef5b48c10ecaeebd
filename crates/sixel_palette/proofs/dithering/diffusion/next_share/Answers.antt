use Rattle.std.{proofs.Common.{◌∙◌, arith}, specs.Prelude.slice_index}
use Rattle.sixel_palette.proofs.mapped_images.DiffusionLanes.{lanes, lanes-max, lanes-minus}
use Rattle.sixel_palette.proofs.mapped_images.DiffusionLanes.{lanes-shift, lanes-splat, lanes-times}
use Rattle.sixel_palette.proofs.dithering.diffusion.next_share.Goals as goal

pub returns : goal.returns
returns c =
    let one = lanes c.args.error c.requires.four in
    let small = c.requires.small in
    let eight =
    lanes-times _ _ (λ k. slice_index c.args.error k) (λ k. 8) one (lanes-splat 8)
    (λ k l. omega (arith, small k)) in
    let all =
    lanes-shift _ _ _ _
    (lanes-minus _ _ _ _ (lanes-max _ _ _ _ eight one) one (λ k l. omega arith)
    (λ k l. omega (arith, small k))) (lanes-splat 4) in
    record { four = all.four; each = λ k l. all.each k l ∙ omega arith }
