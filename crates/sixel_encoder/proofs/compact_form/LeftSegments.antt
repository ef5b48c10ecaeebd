-- The segments of a band that are left to draw, and the pixels that may not be covered.
use Rattle.std.proofs.Common.{slice_index, nat_lt, length, arith, None, Some, Bool, List, zero}
use Rattle.std.proofs.Common.{true, not, inl, inr, suc, ◌*◌, ◌+◌, ◌-◌, ◌<◌, ◌∙◌, ◌∷◌, ◌≡◌, ◌≤◌, ℕ}
use Rattle.std.proofs.{lemmas.Bool.cases_lt, lemmas.Bool.Decides.nat_tests}
use Rattle.std.proofs.lemmas.List.FromFn.{get_or-map-range_with_len, length-map-range_with_len}
use Rattle.std.proofs.lemmas.List.FromFn.{get_or-range_with_len, length-range_with_len}
use Rattle.std.proofs.lemmas.Nat.Bits.{bit_at_above, bit_at-zero, bit_at-lt, bit_at_or}
use Rattle.std.specs.{Int.bit_at, List.range_with_len, Prelude.{nat_le, ◌&&◌, ◌==◌}}
use Rattle.sixel_encoder.specs.Compact.{blocked_after, blocked_sixel, segment_row, union}
use Rattle.sixel_encoder.specs.Text.{Drawing, entry_at, sixel_of}
use Rattle.sixel_encoder.specs.{declared.segments.Segment.Segment, inside.Compact.IsSegment}
use Rattle.sixel_encoder.proofs.MaskBits.{bit_at-mask, mask-small}
use Rattle.sixel_encoder.proofs.compact_form.FillSteps.{AreApart, IsFill-fill, IsPart, IsFilled}
use Rattle.sixel_encoder.proofs.compact_form.SegmentTallies.{is_of, one, tally}

-- ---- what is left

-- an entry of the drawing, and some of its columns
abbrev pub is_segment : Drawing → Segment → Bool
is_segment drawing segment =
    nat_lt segment.entry (length drawing.colors)
    && (nat_lt segment.first segment.end && nat_le segment.end drawing.width)

-- Transparent pixels may not be covered. Each other pixel may not be covered either, or is in one
-- of the segments that are left.
pub record AreLeft (drawing : Drawing) (band : ℕ) (blocked : List ℕ) (segments : List Segment)
    : Type 0 where
  pub size : length blocked ≡ drawing.width
  pub known : tally (λ s. not (is_segment drawing s)) segments ≡ 0
  pub transparent : (column bit : ℕ) → column < drawing.width → bit < 6
      → entry_at drawing column (6 * band + bit) ≡ None
      → bit_at (slice_index blocked column) bit ≡ 1
  pub once : (column bit entry : ℕ) → column < drawing.width → bit < 6
      → entry_at drawing column (6 * band + bit) ≡ Some entry
      → bit_at (slice_index blocked column) bit + tally (is_of column (Some entry)) segments ≡ 1

-- a segment that passes the test is one
pub segment-is : (drawing : Drawing) (s : Segment) → is_segment drawing s ≡ true
    → IsSegment drawing s
segment-is drawing s h = grind (arith, nat_tests)

-- the first segment that is left is one
pub first-left : (drawing : Drawing) (band : ℕ) (blocked : List ℕ) (segment : Segment)
    (segments : List Segment) → AreLeft drawing band blocked (segment ∷ segments)
    → IsSegment drawing segment
first-left drawing band blocked segment segments are = grind (arith, nat_tests, segment-is)

-- the bit of a pixel in the sixel of an entry
pub own-bit : (drawing : Drawing) (band own column bit entry : ℕ) → bit < 6
    → entry_at drawing column (6 * band + bit) ≡ Some entry
    → bit_at (sixel_of drawing band own column) bit ≡ one (entry == own)
own-bit drawing band own column bit entry l at = grind (arith, nat_tests, bit_at-mask)

-- ---- one segment less

-- what may not be covered in a column after a segment
blocked-at : (drawing : Drawing) (band : ℕ) (blocked : List ℕ) (segment : Segment) (column : ℕ)
    → column < length blocked
    → slice_index (blocked_after drawing band blocked segment) column
    ≡ blocked_sixel drawing band blocked segment column
blocked-at drawing band blocked segment column l = grind (arith, get_or-map-range_with_len)

-- the pixels of a segment that is drawn may not be covered
pub AreLeft-after : (drawing : Drawing) (band : ℕ) (blocked : List ℕ) (segment : Segment)
    (segments : List Segment) → AreLeft drawing band blocked (segment ∷ segments)
    → AreLeft drawing band (blocked_after drawing band blocked segment) segments
AreLeft-after drawing band blocked segment segments are = record {
  size = grind (arith, nat_tests, length-map-range_with_len);
  known = grind (arith, nat_tests);
  transparent = λ column bit lc lb none.
      grind (arith, nat_tests, blocked-at, bit_at_or, bit_at-lt, are.transparent column bit);
  once = λ column bit entry lc lb at.
      grind (arith, nat_tests, blocked-at, bit_at_or, own-bit, are.once column bit entry);
}

-- ---- the row of a segment

-- the pixels of a segment that is left may be covered
own-apart : (drawing : Drawing) (band : ℕ) (blocked : List ℕ) (segment : Segment)
    (segments : List Segment) → AreLeft drawing band blocked (segment ∷ segments) → (column : ℕ)
    → segment.first ≤ column → column < segment.end
    → AreApart (sixel_of drawing band segment.entry column) (slice_index blocked column)
own-apart drawing band blocked segment segments are column low high bit =
    let above = bit_at_above (sixel_of drawing band segment.entry column) 6 bit (mask-small _) in
    let few = bit_at-lt (slice_index blocked column) bit in
    elim (cases_lt bit 6) [
      | inr past ↦ omega (arith, above past, few)
      | inl l ↦
          grind (arith, nat_tests, are.once column bit, own-bit, bit_at-mask)
    ]

-- a sixel has no bit that the union does not have
union-part : (sixels : List ℕ) (from n k : ℕ) → k < n
    → IsPart (slice_index sixels (from + k)) (union sixels from n)
unfolding union
union-part sixels from zero k l bit = absurd (omega arith)
union-part sixels from (suc n) k l bit =
    grind (arith, nat_tests, cases_lt, bit_at_or, union-part sixels from n k)

-- the sixels of a segment's row: they cover its own pixels, and none that may not be covered
pub record IsSegmentRow (drawing : Drawing) (band : ℕ) (blocked : List ℕ) (segment : Segment)
    (from : ℕ) (row : List ℕ) : Type 0 where
  pub size : length row ≡ segment.end - from
  pub all : (column : ℕ) → segment.first ≤ column → column < segment.end
      → IsPart (sixel_of drawing band segment.entry column) (slice_index row (column - from))
  pub none : (column : ℕ) → from ≤ column → column < segment.end
      → AreApart (slice_index row (column - from)) (slice_index blocked column)

-- the row of a segment that is left
pub IsSegmentRow-left : (drawing : Drawing) (band : ℕ) (blocked : List ℕ) (segment : Segment)
    (segments : List Segment) (from : ℕ) → AreLeft drawing band blocked (segment ∷ segments)
    → from ≤ segment.first
    → IsSegmentRow drawing band blocked segment from
    (segment_row drawing band blocked segment from)
IsSegmentRow-left drawing band blocked segment segments from are left =
    let own = sixel_of drawing band segment.entry in
    let is = first-left drawing band blocked segment segments are in
    let blank = segment.first - from in
    let wide = segment.end - segment.first in
    let long = length-range_with_len segment.first wide in
    let at = λ (k : ℕ). get_or-range_with_len segment.first wide k 0 in
    let banned = union blocked from blank in
    let fill =
    IsFill-fill own (slice_index blocked) 0 banned blank (range_with_len segment.first wide)
    (λ k l. grind (arith, nat_tests, own-apart, at k, long))
    (λ bit. omega (arith, bit_at-zero bit, bit_at-lt banned bit)) in
    let filled : (column : ℕ) → segment.first ≤ column → column < segment.end
    → IsFilled (own column) (slice_index blocked column)
    (slice_index (segment_row drawing band blocked segment from) (column - from)) =
    λ column low high.
    let k = column - segment.first in
    let here : slice_index (range_with_len segment.first wide) k ≡ column =
    at k (omega arith) ∙ omega arith in
    let place : blank + k ≡ column - from = omega arith in
    rw (here, place) at (fill.then k (omega (arith, long))) in
    record {
      size = omega (arith, fill.size, long, is.some);
      all = λ column low high. (filled column low high).all;
      none = λ column since high. elim (cases_lt column segment.first) [
        | inl before ↦ λ bit.
            let here : from + (column - from) ≡ column = omega arith in
            let part = union-part blocked from blank (column - from) (omega arith) bit in
            omega (arith, (fill.first (column - from) (omega arith)).none bit, rw here at part)
        | inr low ↦ (filled column low high).none
      ];
    }
