use Rattle.std.proofs.Common.{◌≡◌, ◌++◌, string_bytes}
use Rattle.sixel_base.specs.Picture.{joined}
use Rattle.sixel_encoder.specs.{Text.{band_text, definition_text}, inside.Grid.AreEmptyRows}
use Rattle.sixel_encoder.specs.inside.Indexed.{drawing_of}
use Rattle.sixel_encoder.proofs.text.encode_indexed.Given as goal

abbrev pub invariant-loop-entry : goal.invariant-loop-entry
invariant-loop-entry l =
    string_bytes l.text
    ≡ string_bytes l.initial.text ++ joined (definition_text (drawing_of l.image)) l.entry

abbrev pub invariant-loop-band : goal.invariant-loop-band
invariant-loop-band l = record {
  text : string_bytes l.text ≡ string_bytes l.initial.text
      ++ joined (band_text (drawing_of l.image)) l.band;
  empty : AreEmptyRows l.image l.rows;
}
