use Rattle.std.proofs.{Common.arith, lemmas.Bool.Decides.nat_tests}
use Rattle.sixel_palette.proofs.mapped_images.DiffusionLanes.{lanes-cast, lanes-chunk}
use Rattle.sixel_palette.proofs.dithering.diffusion.color_lanes.Goals as goal

pub returns : goal.returns
returns c = grind (arith, nat_tests, lanes-cast, lanes-chunk, c.requires, c.type_inv.pixels)
