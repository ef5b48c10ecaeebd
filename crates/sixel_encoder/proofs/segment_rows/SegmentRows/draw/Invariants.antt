use Rattle.std.proofs.Common.{◌≡◌, ◌-◌, ◌+◌, ◌≤◌, length, slice_index}
use Rattle.sixel_encoder.specs.{Compact.segment_row, Text.sixel_of, inside.Indexed.drawing_of}
use Rattle.sixel_encoder.proofs.compact_form.FillSteps.{IsBlocking, state}
use Rattle.sixel_encoder.proofs.segment_rows.SegmentRows.draw.Given as goal

abbrev pub invariant-loop-column : goal.invariant-loop-column
invariant-loop-column l = record {
  short : l.from + length l.self.row.items ≤ l.column;
  row : state (sixel_of (drawing_of l.entries.image.now) l.entries.band l.segment.entry)
      (slice_index l.fn.self.blocked.items) l.self.row.items l.bits l.ban
      (l.column - l.from - length l.self.row.items) l.column l.segment.end
      ≡ segment_row (drawing_of l.entries.image.now) l.entries.band l.fn.self.blocked.items
      l.segment l.from;
  blocked : IsBlocking l.fn.self.blocked.items
      (sixel_of (drawing_of l.entries.image.now) l.entries.band l.segment.entry) l.segment.first
      l.column l.self.blocked.items;
}
