use Rattle.std.proofs.{Common.arith, lemmas.Bool.Decides.nat_tests}
use Rattle.sixel_palette.proofs.mapped_images.KeptEntries.{neighbor-inside}
use Rattle.sixel_palette.proofs.nearest_entries.Nearest.{nearest-le}
use Rattle.sixel_palette.proofs.dithering.mapped.MappedImage.neighbors.Goals as goal

pub returns-then-self-eq0-clause-before : goal.returns-then-self-eq0-clause-before
returns-then-self-eq0-clause-before c = grind (arith, nat_tests, nearest-le, neighbor-inside)
