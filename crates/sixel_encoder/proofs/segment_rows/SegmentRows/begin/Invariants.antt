use Rattle.std.proofs.Common.{◌≡◌, ◌<◌, ℕ, length, slice_index}
use Rattle.sixel_encoder.specs.{Compact.transparent_sixel, inside.Indexed.drawing_of}
use Rattle.sixel_encoder.proofs.segment_rows.SegmentRows.begin.Given as goal

abbrev pub invariant-loop-column : goal.invariant-loop-column
invariant-loop-column l = record {
  wide : length l.self.blocked.items ≡ l.entries.image.now.width;
  done : (k : ℕ) → k < l.column
      → slice_index l.self.blocked.items k
      ≡ transparent_sixel (drawing_of l.entries.image.now) l.entries.band k;
}
