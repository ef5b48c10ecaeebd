-- The segments that a compact text draws have each pixel of the drawing once.
use Rattle.std.specs.{Int.bit_at, Prelude.{Option, slice_index_or}}
use Rattle.std.proofs.Common.{None, Some, slice_index, ◌%◌, ◌/◌, List, arith, false, inl, inr}
use Rattle.std.proofs.Common.{length, not, refl, suc, true, zero, ℕ, ◌*◌, ◌+◌, ◌<◌, ◌∷◌, ◌≡◌, ◌≤◌}
use Rattle.std.proofs.{Common.{[]}, lemmas.Bool.cases_eq, lemmas.Bool.Decides.nat_tests}
use Rattle.std.proofs.lemmas.List.FromFn.{get_or-map-range_with_len, length-map-range_with_len}
use Rattle.sixel_encoder.specs.Compact.{transparent_sixel, band_register, register_after}
use Rattle.sixel_encoder.specs.{Compact.transparent_row, Segments.{with_place, drawn_segments}}
use Rattle.sixel_encoder.specs.{Segments.{gap_of, segments_up_to, with_pixel}, Text.Drawing}
use Rattle.sixel_encoder.specs.{Text.entry_at, Trip.is_used, declared.segments.Segment.Segment}
use Rattle.sixel_encoder.specs.inside.Compact.{IsSegment, nth}
use Rattle.sixel_encoder.proofs.compact_form.LeftSegments.{AreLeft, is_segment, segment-is}
use Rattle.sixel_encoder.proofs.{MaskBits.bit_at-mask, compact_form.PassSteps.passes-none}
use Rattle.sixel_encoder.proofs.compact_form.SegmentSteps.{some-same}
use Rattle.sixel_encoder.proofs.compact_form.SegmentTallies.{tally-drawn, each-tally, is_of, one}
use Rattle.sixel_encoder.proofs.compact_form.SegmentTallies.{tally}
use Rattle.sixel_encoder.proofs.round_trip.UsedBands.{unused-places}
use Rattle.sixel_encoder.proofs.compact_form.CutSegments.{AreCut, AreCut-pixel, AreCut-wider}
use Rattle.sixel_encoder.proofs.compact_form.CutSegments.{few-cut, own-pixel, tally-pixel}

-- ---- the segments of a band

-- the segments of the first n pixels
record AreOf (drawing : Drawing) (band n : ℕ) (segments : List Segment) : Type 0 where
  cut : AreCut (gap_of drawing) (length drawing.colors) ((n + 5) / 6) segments
  whole : (k e : ℕ) → k < n → entry_at drawing (k / 6) (6 * band + k % 6) ≡ Some e
      → 1 ≤ tally (is_of (k / 6) (Some e)) segments

-- one more pixel
AreOf-place : (drawing : Drawing) (band n : ℕ) (place : Option ℕ) (segments : List Segment)
    → entry_at drawing (n / 6) (6 * band + n % 6) ≡ place
    → ((e : ℕ) → place ≡ Some e → e < length drawing.colors) → AreOf drawing band n segments
    → AreOf drawing band (suc n) (with_place (gap_of drawing) (n / 6) place segments)
AreOf-place drawing band n None segments is known was = grind (arith, nat_tests, AreCut-wider)
AreOf-place drawing band n (Some entry) segments is known was =
    let gap : ℕ = gap_of drawing in
    let bound : (n + 5) / 6 ≤ n / 6 + 1 = omega arith in
    let next : n / 6 + 1 ≡ (suc n + 5) / 6 = omega arith in
    let entries : ℕ = length drawing.colors in
    let grown : List Segment = with_pixel gap (n / 6) entry segments in
    record {
      cut = grind (arith, nat_tests, entry, AreCut, grown, AreCut-pixel, bound, known);
      whole = λ k e l at. elim (cases_eq k n) [
        | inl same ↦ grind (arith, nat_tests, own-pixel, some-same)
        | inr apart ↦ grind (arith, nat_tests, tally-pixel, was.whole k e)
      ];
    }

-- each entry that a place has is one of the drawing's
abbrev pub AreKnown : Drawing → Type 0
AreKnown drawing =
    (place entry : ℕ) → slice_index_or drawing.entries place None ≡ Some entry
    → entry < length drawing.colors

-- ---- the segments in the order in which they are drawn

-- the segments that are cut are the drawing's
known-cut : (drawing : Drawing) (gap bound : ℕ) (segments : List Segment)
    → bound ≤ drawing.width → AreCut gap (length drawing.colors) bound segments
    → tally (λ s. not (is_segment drawing s)) segments ≡ 0
known-cut drawing gap bound [] l are = refl
known-cut drawing gap bound (segment ∷ segments) l are =
    grind (arith, nat_tests, known-cut drawing gap bound segments, one, is_segment)

module _ (drawing : Drawing) (band : ℕ) where
  -- all of them
  AreOf-band : (n : ℕ) → AreKnown drawing → AreOf drawing band n (segments_up_to drawing band n)
  unfolding segments_up_to
  AreOf-band zero known = grind (arith, nat_tests)
  AreOf-band (suc n) known =
      AreOf-place _ _ _ _ _ refl (λ e at. known ((6 * band + n % 6) * drawing.width + n / 6) e at)
      (AreOf-band n known)

  -- a band that is not used has no segment
  unused-segments : (n : ℕ) → is_used drawing band ≡ false → n ≤ 6 * drawing.width
      → segments_up_to drawing band n ≡ []
  unfolding segments_up_to
  unused-segments zero unused l = refl
  unused-segments (suc n) unused l =
      grind (arith, nat_tests, unused-places, unused-segments n unused (omega arith))

  -- a band that is drawn is used
  pub used-drawn : 0 < length (drawn_segments drawing band) → is_used drawing band ≡ true
  used-drawn some = grind (arith, nat_tests, passes-none, unused-segments)

-- and that of an opaque one
pub opaque-bit : (drawing : Drawing) (band column bit entry : ℕ) → column < drawing.width → bit < 6
    → entry_at drawing column (6 * band + bit) ≡ Some entry
    → bit_at (slice_index (transparent_row drawing band) column) bit ≡ 0
opaque-bit drawing band column bit entry lc lb e =
    grind (arith, nat_tests, not, get_or-map-range_with_len, bit_at-mask)

-- when a band begins all its segments are left
pub AreLeft-drawn : (drawing : Drawing) (band : ℕ) → AreKnown drawing
    → AreLeft drawing band (transparent_row drawing band) (drawn_segments drawing band)
AreLeft-drawn drawing band known =
    let of = AreOf-band drawing band (6 * drawing.width) known in
    record {
      size = length-map-range_with_len (transparent_sixel drawing band) 0 drawing.width;
      known = grind (arith, nat_tests, tally-drawn, not, known-cut);
      transparent = λ column bit lc lb e.
          grind (arith, nat_tests, bit, get_or-map-range_with_len, not, bit_at-mask);
      once = λ column bit entry lc lb e.
          let at : (6 * column + bit) / 6 ≡ column = omega arith in
          grind (arith, nat_tests, tally-drawn, few-cut, opaque-bit);
    }

-- each segment that is drawn is one of the drawing's
pub IsSegment-drawn : (drawing : Drawing) (band k : ℕ) → AreKnown drawing
    → k < length (drawn_segments drawing band)
    → IsSegment drawing (nth (drawn_segments drawing band) k)
IsSegment-drawn drawing band k known l =
    segment-is _ _ (each-tally _ _ (AreLeft-drawn _ band known).known _ l)

-- ---- the register that is selected

-- before the first band
pub register_after-none : (drawing : Drawing) → register_after drawing 0 ≡ None
unfolding register_after
register_after-none drawing = refl

-- after one band more
pub register_after-more : (drawing : Drawing) (band : ℕ)
    → register_after drawing (band + 1) ≡ band_register drawing band (register_after drawing band)
unfolding register_after
register_after-more drawing band = grind (arith, nat_tests)
