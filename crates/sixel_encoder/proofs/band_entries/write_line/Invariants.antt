use Rattle.std.proofs.Common.{◌≡◌, ◌+◌, ◌*◌, ◌<◌, ℕ, length, slice_index, ◌≢◌}
use Rattle.sixel_encoder.specs.{Text.entry_at, inside.Compact.lane_of, inside.Indexed.drawing_of}
use Rattle.sixel_encoder.proofs.band_entries.write_line.Given as goal

abbrev pub invariant-loop-column : goal.invariant-loop-column
invariant-loop-column l = record {
  size : length l.lanes ≡ length l.initial.lanes;
  line : (column : ℕ) → column < l.column
      → slice_index l.lanes (8 * column + l.bit)
      ≡ lane_of (entry_at (drawing_of l.image) column l.row);
  others : (column other : ℕ) → other < 8 → other ≢ l.bit
      → slice_index l.lanes (8 * column + other)
      ≡ slice_index l.initial.lanes (8 * column + other);
}
