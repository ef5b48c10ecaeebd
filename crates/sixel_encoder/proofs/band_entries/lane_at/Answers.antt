use Rattle.std.proofs.{Common.arith, lemmas.Bool.Decides.nat_tests}
use Rattle.sixel_encoder.proofs.band_rows.Masks.{entry_at-below, entry_at-inside}
use Rattle.sixel_encoder.proofs.band_entries.lane_at.Goals as goal

pub returns-then-row-image : goal.returns-then-row-image
returns-then-row-image c = grind (arith, entry_at-below, c.requires.image, c.if-row-image.true)

pub returns-then-is_opaque : goal.returns-then-is_opaque
returns-then-is_opaque c = grind (arith, entry_at-inside)

pub returns-else-is_opaque : goal.returns-else-is_opaque
returns-else-is_opaque c = grind (arith, nat_tests, entry_at-inside)
