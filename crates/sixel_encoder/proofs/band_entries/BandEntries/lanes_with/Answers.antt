use Rattle.std.{proofs.Common.{arith, slice_index, ◌+◌, ◌*◌}, specs.Prelude.{◌==◌}}
use Rattle.sixel_encoder.{proofs.MaskBits.mask-lt, proofs.band_rows.ColumnLanes.mask_is}
use Rattle.sixel_encoder.proofs.band_entries.BandEntries.lanes_with.Goals as goal

pub overflow_cast-result : goal.overflow_cast-result
overflow_cast-result c =
    let lanes = c.args.self.now.lanes.items in
    let is = mask_is lanes (8 * c.args.column) c.args.value c.requires in
    let low = mask-lt (λ bit. slice_index lanes (8 * c.args.column + bit) == c.args.value) 8 in
    rw c.as_slice-lanes.ensures.value (omega (arith, is, low))

pub returns : goal.returns
returns c =
    rw c.as_slice-lanes.ensures.value
    (mask_is c.args.self.now.lanes.items (8 * c.args.column) c.args.value c.requires)
