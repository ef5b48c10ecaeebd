use Rattle.std.proofs.Common.{◌≡◌, length, ◌+◌, ◌-◌, ◌*◌, ◌<◌, ◌≤◌}
use Rattle.sixel_encoder.specs.Segments.{segments_up_to, with_pixel}
use Rattle.sixel_encoder.specs.inside.{Compact.AreLast, Indexed.drawing_of}
use Rattle.sixel_encoder.proofs.segments.band_segments.Given as goal

abbrev pub invariant-columns : goal.invariant-columns
invariant-columns l = record {
  segments : l.segments.items
      ≡ segments_up_to (drawing_of l.entries.image.now) l.entries.band (6 * l.column);
  last : AreLast l.segments.items l.last l.gap l.column;
  size : length l.last ≡ 256;
  within : l.column ≤ l.entries.image.now.width;
}

abbrev pub decreases-columns : goal.decreases-columns
decreases-columns l = l.entries.image.now.width - l.column

abbrev pub invariant-loop-bit : goal.invariant-loop-bit
invariant-loop-bit l = record {
  segments : l.segments.items
      ≡ segments_up_to (drawing_of l.entries.image.now) l.entries.band (6 * l.column + l.bit);
  last : AreLast l.segments.items l.last l.gap l.column;
  size : length l.last ≡ 256;
  above : l.above < 256
      → with_pixel l.gap l.column l.above l.segments.items ≡ l.segments.items;
}
