use Rattle.std.proofs.Common.{◌∙◌}
use Rattle.sixel_encoder.proofs.band_rows.ColumnLanes.{sixel-lanes}
use Rattle.sixel_encoder.proofs.band_entries.BandEntries.sixel.Goals as goal

pub returns : goal.returns
returns c =
    c.lanes_with.ensures ∙ sixel-lanes _ _ _ c.requires.entries c.requires.column c.requires.entry
