use Rattle.std.proofs.{Common.{◌∙◌, arith}, lemmas.Bool.Decides.nat_tests, lemmas.Nat.mul-le}
use Rattle.std.specs.Prelude.{slice_index}
use Rattle.sixel_palette.proofs.mapped_images.DiffusionLanes.{lanes, lanes-shift, lanes-splat}
use Rattle.sixel_palette.proofs.mapped_images.DiffusionLanes.{lanes-times}
use Rattle.sixel_palette.proofs.dithering.diffusion.share.Goals as goal

pub returns : goal.returns
returns c =
    let error = c.args.error in
    let part = c.args.part in
    let all =
    lanes-shift _ _ _ _
    (lanes-times _ _ (λ k. slice_index error k) (λ k. part) (lanes error c.requires.error.four)
    (lanes-splat part)
    (grind (arith, nat_tests, c.requires.error.small, c.requires.part, mul-le))) (lanes-splat 4) in
    record { four = all.four; each = λ k l. all.each k l ∙ omega arith }
