use Rattle.std.proofs.Common.{◌≡◌, ◌++◌, drop, string_bytes}
use Rattle.sixel_encoder.specs.{Compact.{drawn_by, segments_marks}, Marks.marks_text}
use Rattle.sixel_encoder.specs.inside.Compact.{AreLanes, IsWriter, drawn_so_far}
use Rattle.sixel_encoder.specs.inside.Indexed.{drawing_of}
use Rattle.sixel_encoder.proofs.compact.BandWriter.push_band.Given as goal

abbrev pub invariant-loop-segment : goal.invariant-loop-segment
invariant-loop-segment l = record {
  writer : IsWriter l.self;
  entries : AreLanes l.self.entries;
  image : l.self.entries.image ≡ l.fn.self.entries.image;
  band : l.self.entries.band ≡ l.band;
  text : string_bytes l.text
      ++ marks_text (segments_marks (drawing_of l.self.entries.image.now) l.band
      (drawn_so_far l.self) (drop l.segment-index l.segment-items))
      ≡ string_bytes l.initial.text
      ++ marks_text (segments_marks (drawing_of l.self.entries.image.now) l.band
      (drawn_so_far l.initial.self) l.segment-items);
  drawn : drawn_by (drawing_of l.self.entries.image.now) l.band (drawn_so_far l.self)
      (drop l.segment-index l.segment-items)
      ≡ drawn_by (drawing_of l.self.entries.image.now) l.band (drawn_so_far l.initial.self)
      l.segment-items;
}
