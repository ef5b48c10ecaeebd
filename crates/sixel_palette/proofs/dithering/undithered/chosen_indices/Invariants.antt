use Rattle.std.proofs.Common.{◌+◌, ◌-◌, ◌*◌}
use Rattle.sixel_palette.specs.{Dithering.undithered_of, inside.Mapped.mapped_value}
use Rattle.sixel_palette.proofs.mapped_images.UnditheredVisits.{AreVisited}
use Rattle.sixel_palette.proofs.dithering.undithered.chosen_indices.Given as goal

abbrev pub invariant-loop-band : goal.invariant-loop-band
invariant-loop-band l =
    AreVisited (undithered_of (mapped_value l.image) l.nearest.items l.chosen.items) l.band 0

abbrev pub invariant-loop-column : goal.invariant-loop-column
invariant-loop-column l =
    AreVisited (undithered_of (mapped_value l.image) l.nearest.items l.chosen.items) l.band
    (6 * l.column)

abbrev pub invariant-loop-row : goal.invariant-loop-row
invariant-loop-row l =
    AreVisited (undithered_of (mapped_value l.image) l.nearest.items l.chosen.items) l.band
    (6 * l.column + (l.row - 6 * l.band))
