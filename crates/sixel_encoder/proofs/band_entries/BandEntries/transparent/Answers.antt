use Rattle.std.proofs.Common.{arith}
use Rattle.sixel_encoder.proofs.band_rows.ColumnLanes.{transparent-lanes}
use Rattle.sixel_encoder.proofs.band_entries.BandEntries.transparent.Goals as goal

pub overflow_sub-result : goal.overflow_sub-result
overflow_sub-result c =
    let all = transparent-lanes _ _ c.requires.entries c.requires.column in
    omega (arith, c.lanes_with.ensures, all)

pub returns : goal.returns
returns c =
    let all = transparent-lanes _ _ c.requires.entries c.requires.column in
    omega (arith, c.lanes_with.ensures, all)
