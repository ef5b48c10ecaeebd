use Rattle.std.proofs.Common.{arith}
use Rattle.sixel_palette.proofs.mapped_images.GraySource.{gray-length}
use Rattle.sixel_palette.proofs.dithering.dithered_indices.Goals as goal

pub searched_indices-requires-2 : goal.searched_indices-requires-2
searched_indices-requires-2 c =
    let value = c.deref.ensures.value in
    let image = c.requires in
    grind (arith, c.in_ok-grays.ensures, gray-length, image.whole, image.some, image.strength)
