-- The compact text of a drawing, or the plain one if that is shorter, is a text of marks that draw
-- the drawing, band by band.
use Rattle.std.proofs.Common.{None, Some, slice_index, ◌/◌, Bool, arith, cond, false, length, refl}
use Rattle.std.proofs.Common.{true, ◌≤◌, List, max, suc, zero, ℕ, ◌*◌, ◌+◌, ◌-◌, ◌<◌, ◌∙◌, ◌≡◌}
use Rattle.std.proofs.lemmas.Bool.Decides.{nat_tests}
use Rattle.std.specs.Int.{bit_at}
use Rattle.sixel_encoder.specs.Compact.{compact_marks, compact_text, marked_text, Drawn}
use Rattle.sixel_encoder.specs.Compact.{compact_band, drawn_by, nothing_of, register_after}
use Rattle.sixel_encoder.specs.Compact.{segments_marks, to_band, transparent_row}
use Rattle.sixel_encoder.specs.Marks.{IsDrawnText, Draws, Mark, Pen, first_pen}
use Rattle.sixel_encoder.specs.RegisterOrder.{numbered_definitions, number_of}
use Rattle.sixel_encoder.specs.{Segments.drawn_segments, Text.{Drawing, text_of, bands, entry_at}}
use Rattle.sixel_encoder.specs.Trip.{IsWritable, bands_up_to, is_used}
use Rattle.sixel_encoder.proofs.plain_text.Marks.{known_place, nothing_drawn}
use Rattle.sixel_encoder.proofs.plain_text.Text.{IsDrawnText-plain}
use Rattle.sixel_encoder.specs.declared.segments.Segment.{Segment}
use Rattle.sixel_encoder.proofs.round_trip.DrawnHeight.{bands_up_to-le, bands_up_to-passed}
use Rattle.sixel_encoder.proofs.round_trip.MarkSteps.{Leads, Leads-append, Leads-joined, Places}
use Rattle.sixel_encoder.proofs.round_trip.{MarkSteps.painted-place, UsedBands.used-here}
use Rattle.sixel_encoder.proofs.band_rows.EntryRows.{IsInBand}
use Rattle.sixel_encoder.proofs.compact_form.RegisterNumbers.{AreNumbers-numbered}
use Rattle.sixel_encoder.proofs.compact_form.SegmentMarks.{AreLeft-by, IsDrawn, Leads-segments}
use Rattle.sixel_encoder.proofs.compact_form.SegmentOrder.{register_after-more, register_after-none}
use Rattle.sixel_encoder.proofs.compact_form.SegmentOrder.{AreLeft-drawn, opaque-bit, used-drawn}

-- ---- between two bands

-- The pen is in the band above, if there is one. No transparent pixel is set. The pixels of the
-- bands above are drawn in their own registers.
record Above (drawing : Drawing) (band : ℕ) (pen : Pen) (place : Places) : Type 0 where
  left : band ≡ 0 → pen.column ≡ 0
  level : pen.band + 1 ≡ max 1 band
  register : pen.register ≡ register_after drawing band
  transparent : (column line : ℕ) → column < drawing.width → entry_at drawing column line ≡ None
      → place column line ≡ None
  above : (column line entry : ℕ) → column < drawing.width → line < 6 * band
      → entry_at drawing column line ≡ Some entry
      → place column line ≡ Some (number_of drawing entry)

-- no opaque pixel of the band is drawn when it begins
nothing-here : (drawing : Drawing) (band : ℕ) (place : Places) (column line entry : ℕ)
    → column < drawing.width → IsInBand band line → entry_at drawing column line ≡ Some entry
    → bit_at (slice_index (transparent_row drawing band) column) (line - 6 * band) ≡ 1
    → place column line ≡ Some (number_of drawing entry)
nothing-here drawing band place column line entry lc inside e bit =
    let i : ℕ = line - 6 * band in
    let here : 6 * band + i ≡ line = omega (arith, inside.since) in
    grind (arith, nat_tests, opaque-bit)

-- down to the band
Leads-to_band : (drawing : Drawing) (band : ℕ) (pen : Pen) (place : Places)
    → band < bands drawing.height → Above drawing band pen place
    → Leads drawing
    (IsDrawn drawing band (nothing_of drawing band (register_after drawing band))) pen place
    (to_band band)
Leads-to_band drawing zero pen place lower at =
    grind (arith, nat_tests, nothing-here drawing zero place)
Leads-to_band drawing (suc band) pen place lower at =
    grind (arith, nat_tests, nothing-here drawing (suc band) place)

-- a band leads to the next
Leads-band : (drawing : Drawing) (band : ℕ) (pen : Pen) (place : Places) → IsWritable drawing
    → band < bands drawing.height → Above drawing band pen place
    → Leads drawing (Above drawing (band + 1)) pen place (compact_band drawing band)
Leads-band drawing band pen place is lower at =
    let segments : List Segment = drawn_segments drawing band in
    let start : Drawn = nothing_of drawing band (register_after drawing band) in
    let are = AreLeft-drawn drawing band (λ p e known. known_place drawing p e is known) in
    let first = Leads-to_band drawing band pen place lower at in
    let all =
    Leads-append drawing _ (IsDrawn drawing band (drawn_by drawing band start segments)) pen place
    (to_band band) (segments_marks drawing band start segments) first
    (Leads-segments drawing band start segments _ _ (AreNumbers-numbered drawing is) are lower
    (used-drawn drawing band) first.state) in
    let whole = AreLeft-by drawing band start segments are in
    grind (arith, nat_tests, register_after-more)

-- ---- they draw the drawing

-- the compact marks draw the drawing
pub Draws-compact : (drawing : Drawing) → IsWritable drawing
    → Draws drawing (numbered_definitions drawing) (compact_marks drawing)
Draws-compact drawing is =
    let last : ℕ = bands_up_to (is_used drawing) (bands drawing.height) in
    let marks : List Mark = compact_marks drawing in
    let none = register_after-none drawing in
    let leads =
    Leads-joined drawing (Above drawing) (compact_band drawing) last
    (λ k p d l at.
    Leads-band drawing k p d is
    (omega (arith, bands_up_to-le (is_used drawing) (bands drawing.height), l)) at)
    first_pen nothing_drawn (grind (arith, nat_tests)) in
    let numbers = AreNumbers-numbered drawing is in
    let painted = painted-place marks first_pen nothing_drawn in
    record {
      defined = numbers.defined;
      allowed = leads.allowed;
      transparent = λ column line lc e.
          painted column line ∙ leads.state.transparent column line lc e;
      opaque = λ column line entry lc ll e.
          let used = used-here drawing column line entry is lc ll e in
          let passed =
          bands_up_to-passed (is_used drawing) (bands drawing.height) (line / 6) (omega arith)
          used in (
            number_of drawing entry,
            painted column line ∙ leads.state.above column line entry lc (omega (arith, passed)) e,
            numbers.known (line * drawing.width + column) entry e,
          );
    }

-- the compact text is a text of marks that draw the drawing
pub IsDrawnText-compact : (drawing : Drawing) → IsWritable drawing
    → IsDrawnText drawing (compact_text drawing)
IsDrawnText-compact drawing is = grind (arith, nat_tests, go)
  where
    go : (b : Bool) → IsDrawnText drawing (cond b (text_of drawing) (marked_text drawing))
    go true = IsDrawnText-plain drawing is
    go false = (numbered_definitions drawing, compact_marks drawing, Draws-compact drawing is, refl)

-- it is no longer than the plain text
pub length-compact : (drawing : Drawing)
    → length (compact_text drawing) ≤ length (text_of drawing)
length-compact drawing = grind (arith, nat_tests)
