use Rattle.std.{proofs.Common.{arith}, proofs.lemmas.Bool.Decides.nat_tests}
use Rattle.sixel_palette.proofs.mapped_images.KeptEntries.{nearest-distance}
use Rattle.sixel_palette.proofs.mapped_images.PaletteError.{number-light}
use Rattle.sixel_palette.proofs.dithering.ordered.Pattern.amplitude_at.Goals as goal

pub returns-then-distance-self : goal.returns-then-distance-self
returns-then-distance-self c =
    let near = c.requires.nearest in
    grind (arith, nat_tests, near, nearest-distance, number-light)

pub returns-else-distance-self : goal.returns-else-distance-self
returns-else-distance-self c =
    let near = c.requires.nearest in
    grind (arith, nat_tests, near, nearest-distance, number-light)
