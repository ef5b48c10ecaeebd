-- The marks of a segment draw its pixels and cover none that may not be covered.
use Rattle.std.proofs.Common.{None, Some, slice_index, Bool, List, arith, cond, false, length, refl}
use Rattle.std.proofs.Common.{true, ℕ, ◌*◌, ◌+◌, ◌-◌, ◌<◌, ◌∙◌, ◌∷◌, ◌≡◌, ◌≤◌, []}
use Rattle.std.{proofs.lemmas.Bool.cases_eq, proofs.lemmas.Bool.Decides.nat_tests}
use Rattle.std.{proofs.lemmas.Nat.Bits.bit_at-lt, specs.Int.bit_at, specs.Prelude.{Option, nat_le}}
use Rattle.sixel_encoder.{specs.declared.segments.Segment.Segment, specs.Compact.segments_marks}
use Rattle.sixel_encoder.specs.Compact.{start_column, to_register, to_segment, Drawn, blocked_after}
use Rattle.sixel_encoder.specs.Compact.{drawn_after, drawn_by, is_selected, segment_marks}
use Rattle.sixel_encoder.{specs.Compact.segment_row, specs.RegisterOrder.number_of}
use Rattle.sixel_encoder.{specs.Text.{Drawing, bands, entry_at}, specs.Trip.is_used}
use Rattle.sixel_encoder.{specs.inside.Compact.IsSegment, specs.Marks.{Back, Draw, Pen, Pick}}
use Rattle.sixel_encoder.{specs.Marks.is_lit, proofs.band_rows.EntryRows.{IsInBand, is_lit-past}}
use Rattle.sixel_encoder.proofs.compact_form.LeftSegments.{AreLeft, AreLeft-after, IsSegmentRow}
use Rattle.sixel_encoder.proofs.compact_form.LeftSegments.{IsSegmentRow-left, first-left, own-bit}
use Rattle.sixel_encoder.proofs.round_trip.MarkSteps.{Leads, Leads-append, Places}
use Rattle.sixel_encoder.proofs.compact_form.RegisterNumbers.{AreNumbers}
use Rattle.sixel_encoder.proofs.compact_form.SegmentTallies.{is_of}
use Rattle.sixel_encoder.{proofs.compact_form.FillSteps.All-fill, proofs.MaskBits.mask-small}

-- ---- within a band

-- The pen is where it should be. No transparent pixel is set. The pixels of the bands above and, in
-- this band, those that may not be covered are drawn in their own registers.
pub record IsDrawn (drawing : Drawing) (band : ℕ) (drawn : Drawn) (pen : Pen) (place : Places)
    : Type 0 where
  pub column : pen.column ≡ drawn.column
  pub register : pen.register ≡ drawn.register
  pub level : pen.band ≡ band
  pub transparent : (column line : ℕ) → column < drawing.width → entry_at drawing column line ≡ None
      → place column line ≡ None
  pub above : (column line entry : ℕ) → column < drawing.width → line < 6 * band
      → entry_at drawing column line ≡ Some entry
      → place column line ≡ Some (number_of drawing entry)
  pub here : (column line entry : ℕ) → column < drawing.width → IsInBand band line
      → entry_at drawing column line ≡ Some entry
      → bit_at (slice_index drawn.blocked column) (line - 6 * band) ≡ 1
      → place column line ≡ Some (number_of drawing entry)

-- the pen moves and draws nothing
IsDrawn-moved : (drawing : Drawing) (band : ℕ) (drawn next : Drawn) (pen other : Pen)
    (place : Places) → other.column ≡ next.column → other.register ≡ next.register
    → other.band ≡ pen.band → next.blocked ≡ drawn.blocked
    → IsDrawn drawing band drawn pen place → IsDrawn drawing band next other place
IsDrawn-moved drawing band drawn next pen other place column register same kept at = grind arith

-- what is drawn when the row of a segment begins
abbrev at_start : Drawn → Segment → Drawn
at_start drawn segment = record {
  column = start_column drawn.column segment;
  register = drawn.register;
  blocked = drawn.blocked;
}

-- what is drawn when a register is selected, too
abbrev in_register : ℕ → Drawn → Drawn
in_register register drawn = record {
  column = drawn.column;
  register = Some register;
  blocked = drawn.blocked;
}

module _ (drawing : Drawing) (band : ℕ) (drawn : Drawn) (pen : Pen) (place : Places) where
  -- to the left of the segment
  Leads-left : (segment : Segment) → IsDrawn drawing band drawn pen place
      → Leads drawing (IsDrawn drawing band (at_start drawn segment)) pen place
      (to_segment drawn.column segment)
  Leads-left segment at = go (nat_le drawn.column segment.first)
    where
      go : (b : Bool)
          → Leads drawing
          (IsDrawn drawing band record {
            column = cond b drawn.column 0;
            register = drawn.register;
            blocked = drawn.blocked;
          }) pen place (cond b [] (Back ∷ []))
      go true = record { allowed = tt; state = at }
      go false = grind (arith, nat_tests, IsDrawn-moved)

  -- into a register
  Leads-register : (register : ℕ) → register < 256 → IsDrawn drawing band drawn pen place
      → Leads drawing (IsDrawn drawing band (in_register register drawn)) pen place
      (to_register register drawn.register)
  Leads-register register small at = go (is_selected register drawn.register) refl
    where
      go : (b : Bool) → is_selected register drawn.register ≡ b
          → Leads drawing (IsDrawn drawing band (in_register register drawn)) pen place
          (cond b [] (Pick register ∷ []))
      go true e = grind (arith, nat_tests, IsDrawn-moved)
      go false e = grind (arith, nat_tests, IsDrawn-moved)

-- ---- where a row sets a pixel

-- a pixel that a row sets
record IsLit (band from end column line value : ℕ) : Type 0 where
  since : from ≤ column
  before : column < end
  inside : IsInBand band line
  bit : bit_at value (line - 6 * band) ≡ 1

-- ---- the row of a segment

-- the row of a segment that is left
Leads-row : (drawing : Drawing) (band : ℕ) (drawn : Drawn) (segment : Segment)
    (segments : List Segment) (pen : Pen) (place : Places)
    → AreLeft drawing band drawn.blocked (segment ∷ segments) → band < bands drawing.height
    → is_used drawing band ≡ true → drawn.column ≤ segment.first
    → IsDrawn drawing band (in_register (number_of drawing segment.entry) drawn) pen place
    → Leads drawing (IsDrawn drawing band (drawn_after drawing band drawn segment)) pen place
    (Draw (segment_row drawing band drawn.blocked segment drawn.column) ∷ [])
Leads-row drawing band drawn segment segments pen place are lower used left at = record {
  allowed = grind (arith, nat_tests, All-fill, mask-small, known, is);
  state =
      grind (arith, nat_tests, row, known, is, lit-here, bit-of, at-bit, coverable, keep, draws);
}
  where
    row : List ℕ
    row = segment_row drawing band drawn.blocked segment drawn.column

    known : IsSegment drawing segment
    known = first-left drawing band drawn.blocked segment segments are

    is : IsSegmentRow drawing band drawn.blocked segment drawn.column row
    is = IsSegmentRow-left drawing band drawn.blocked segment segments drawn.column are left

    same : (column line : ℕ)
        → is_lit row pen.column (6 * pen.band) column line
        ≡ is_lit row drawn.column (6 * band) column line
    same column line = grind (arith, nat_tests, row)

    lit-here : (column line : ℕ) → is_lit row pen.column (6 * pen.band) column line ≡ true
        → IsLit band drawn.column segment.end column line (slice_index row (column - drawn.column))
    lit-here column line lit = grind (arith, nat_tests, is_lit-past, row, is, same)

    bit-of : (line : ℕ) → IsInBand band line → line - 6 * band < 6
    bit-of line inside = omega (arith, inside.since, inside.before)

    at-bit : (column line : ℕ) → IsInBand band line
        → entry_at drawing column (6 * band + (line - 6 * band)) ≡ entry_at drawing column line
    at-bit column line inside = grind (arith, nat_tests)

    -- what the row sets could be covered
    coverable : (column line : ℕ) → is_lit row pen.column (6 * pen.band) column line ≡ true
        → bit_at (slice_index drawn.blocked column) (line - 6 * band) ≡ 1 → ⊥
    coverable column line lit blocked = grind (arith, nat_tests, is, lit-here)

    keep : (column line : ℕ) (b : Bool) → is_lit row pen.column (6 * pen.band) column line ≡ b
        → (is_lit row pen.column (6 * pen.band) column line ≡ true → ⊥) → {x : Option ℕ}
        → place column line ≡ x → cond b pen.register (place column line) ≡ x
    keep column line b lit never was = grind (arith, nat_tests)

    -- a pixel that may not be covered since this segment is one of its own
    owned : (column line entry : ℕ) → column < drawing.width → IsInBand band line
        → entry_at drawing column line ≡ Some entry
        → bit_at (slice_index (blocked_after drawing band drawn.blocked segment) column)
        (line - 6 * band) ≡ 1
        → (bit_at (slice_index drawn.blocked column) (line - 6 * band) ≡ 1 → ⊥)
        → is_of column (Some entry) segment ≡ true
    owned column line entry lc inside e bit never =
        let after = AreLeft-after drawing band drawn.blocked segment segments are in
        let at_bit = at-bit column line inside ∙ e in
        let now = after.once column _ entry lc (bit-of line inside) at_bit in
        grind (arith, nat_tests, bit_at-lt)

    draws : (column line entry : ℕ) → column < drawing.width → IsInBand band line
        → entry_at drawing column line ≡ Some entry
        → bit_at (slice_index (blocked_after drawing band drawn.blocked segment) column)
        (line - 6 * band) ≡ 1 → (b : Bool) → is_lit row pen.column (6 * pen.band) column line ≡ b
        → cond b pen.register (place column line) ≡ Some (number_of drawing entry)
    draws column line entry lc inside e bit true lit =
        grind (arith, nat_tests, owned column line entry lc inside e bit, coverable)
    draws column line entry lc inside e bit false unlit =
        let was = cases_eq (bit_at (slice_index drawn.blocked column) (line - 6 * band)) 1 in
        let own = owned column line entry lc inside e bit in
        let at_bit = at-bit column line inside ∙ e in
        let has = own-bit drawing band segment.entry column _ entry (bit-of line inside) at_bit in
        grind (arith, nat_tests, bit_at-lt, row, is, same, at.here)

-- ---- some segments

-- a segment leads to the next
Leads-segment : (drawing : Drawing) (band : ℕ) (drawn : Drawn) (segment : Segment)
    (segments : List Segment) (pen : Pen) (place : Places) → AreNumbers drawing
    → AreLeft drawing band drawn.blocked (segment ∷ segments) → band < bands drawing.height
    → is_used drawing band ≡ true → IsDrawn drawing band drawn pen place
    → Leads drawing (IsDrawn drawing band (drawn_after drawing band drawn segment)) pen place
    (segment_marks drawing band drawn segment)
Leads-segment drawing band drawn segment segments pen place numbers are lower used at =
    let first = Leads-left drawing band drawn pen place segment at in
    let known = first-left drawing band drawn.blocked segment segments are in
    let second = Leads-register _ _ _ _ _ _ (numbers.small segment.entry known.known) first.state in
    let third =
    Leads-row drawing band (at_start drawn segment) segment segments _ _ are lower used
    (grind (arith, nat_tests)) second.state in
    Leads-append _ _ _ _ _ _ _ first (Leads-append _ _ _ _ _ _ _ second third)

-- some segments lead to their end
pub Leads-segments : (drawing : Drawing) (band : ℕ) (drawn : Drawn) (segments : List Segment)
    (pen : Pen) (place : Places) → AreNumbers drawing
    → AreLeft drawing band drawn.blocked segments → band < bands drawing.height
    → (0 < length segments → is_used drawing band ≡ true) → IsDrawn drawing band drawn pen place
    → Leads drawing (IsDrawn drawing band (drawn_by drawing band drawn segments)) pen place
    (segments_marks drawing band drawn segments)
Leads-segments drawing band drawn [] pen place numbers are lower used at = grind (arith, nat_tests)
Leads-segments drawing band drawn (segment ∷ segments) pen place numbers are lower used at =
    let next = drawn_after drawing band drawn segment in
    let first =
    Leads-segment drawing band drawn segment segments pen place numbers are lower
    (used (omega arith)) at in
    let after = AreLeft-after drawing band drawn.blocked segment segments are in
    Leads-append _ _ _ _ _ _ _ first (Leads-segments drawing band next segments _ _ numbers after
    lower (λ l. used (omega arith)) first.state)

-- after them none is left
pub AreLeft-by : (drawing : Drawing) (band : ℕ) (drawn : Drawn) (segments : List Segment)
    → AreLeft drawing band drawn.blocked segments
    → AreLeft drawing band (drawn_by drawing band drawn segments).blocked []
AreLeft-by drawing band drawn [] are = are
AreLeft-by drawing band drawn (segment ∷ segments) are =
    AreLeft-by drawing band (drawn_after drawing band drawn segment) segments
    (AreLeft-after drawing band drawn.blocked segment segments are)
