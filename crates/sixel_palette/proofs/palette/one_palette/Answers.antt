use Rattle.sixel_palette.proofs.traversal.Law.{palette_same, size_same}
use Rattle.sixel_palette.proofs.palette.one_palette.Goals as goal

pub returns-clause-palette : goal.returns-clause-palette
returns-clause-palette c = palette_same

pub returns-clause-size : goal.returns-clause-size
returns-clause-size c = size_same
