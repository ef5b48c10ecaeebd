use Rattle.std.proofs.Common.{◌≡◌, ◌*◌, ◌++◌, length, string_bytes}
use Rattle.sixel_base.specs.Picture.{joined}
use Rattle.sixel_encoder.specs.Text.{entry_text}
use Rattle.sixel_encoder.specs.inside.{Grid.AreEmptyRows, Indexed.drawing_of}
use Rattle.sixel_encoder.proofs.band.BandRows.push_band.Given as goal

abbrev pub invariant-loop-part : goal.invariant-loop-part
invariant-loop-part l = record {
  text : string_bytes l.text ≡ string_bytes l.initial.text
      ++ joined (entry_text (drawing_of l.image) l.band) (l.part * length l.self.used.items);
  count : length l.self.used.items ≡ length l.initial.self.used.items;
  empty : AreEmptyRows l.image l.self;
}
