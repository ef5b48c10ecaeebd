use Rattle.std.{proofs.Common.{refl, arith}, proofs.lemmas.Bool.Decides.nat_tests}
use Rattle.sixel_palette.proofs.dithering.gray.are_gray.Goals.{then-gray, else-gray}
use Rattle.sixel_palette.{proofs.mapped_images.GraySource.are_gray-more, specs.Gray.are_gray}
use Rattle.sixel_palette.proofs.dithering.gray.are_gray.Goals as goal

pub loop-position-init : goal.loop-position-init
unfolding are_gray
loop-position-init c = refl

pub loop-position-preserved : goal.loop-position-preserved
loop-position-preserved c =
    let colors = c.args.colors.now in
    let position = c.loop-position.position in
    let more = are_gray-more colors position in
    elim c.if-gray.branch [
      | then-gray w ↦ grind (arith, nat_tests)
      | else-gray w ↦ grind (arith, nat_tests)
    ]
