use Rattle.std.proofs.Common.{◌≡◌, ◌≤◌, ◌++◌, length, string_bytes}
use Rattle.sixel_base.specs.Picture.{joined}
use Rattle.sixel_encoder.specs.{Compact.{compact_band, register_after}, Marks.marks_text}
use Rattle.sixel_encoder.specs.{Text.band_text, inside.Compact.IsWriter, inside.Indexed.drawing_of}
use Rattle.sixel_encoder.proofs.compact.BandWriter.push_bands.Given as goal

abbrev pub invariant-loop-band : goal.invariant-loop-band
invariant-loop-band l = record {
  writer : IsWriter l.self;
  image : l.self.entries.image.now ≡ l.fn.self.entries.image.now;
  text : string_bytes l.text
      ≡ string_bytes l.initial.text
      ++ marks_text (joined (compact_band (drawing_of l.fn.self.entries.image.now)) l.band);
  plain : l.plain_bytes
      ≤ length (joined (band_text (drawing_of l.fn.self.entries.image.now)) l.band);
  register : l.self.pen.register
      ≡ register_after (drawing_of l.fn.self.entries.image.now) l.band;
}
