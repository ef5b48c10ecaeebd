use Rattle.std.proofs.Common.{arith}
use Rattle.sixel_palette.proofs.refinement.{Counts.counts-sum, Refinement.refinement-error}
use Rattle.sixel_palette.proofs.mapped_images.PaletteError.{error-small}
use Rattle.std.proofs.lemmas.Bool.Decides.{nat_tests}
use Rattle.sixel_palette.proofs.dithering.palette_error.palette_error.Goals as goal

pub returns-in-Found : goal.returns-in-Found
returns-in-Found c =
    grind (arith, nat_tests, c.index_error.ensures, error-small)

pub returns-in-Refined : goal.returns-in-Refined
returns-in-Refined c =
    grind (arith, nat_tests, c.from.ensures, refinement-error, counts-sum, error-small)
