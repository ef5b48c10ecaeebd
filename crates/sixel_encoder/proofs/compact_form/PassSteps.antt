-- One pixel more of a band, and one segment more of a pass.
use Rattle.std.proofs.Common.{None, Some, List, ap, append_assoc, arith, length, refl}
use Rattle.std.proofs.Common.{replicate, suc, zero, ℕ, ◌*◌, ◌++◌, ◌+◌, ◌<◌, ◌-◌, ◌∷◌, ◌≡◌, []}
use Rattle.std.specs.Prelude.{Option, slice_index_or}
use Rattle.std.proofs.lemmas.{Bool.cases_Bool, Bool.Decides.nat_tests, List.append-nil}
use Rattle.sixel_encoder.specs.declared.segments.Segment.{Segment}
use Rattle.sixel_encoder.specs.Segments.{after_pass, gap_of, in_pass, passes, segments_up_to}
use Rattle.sixel_encoder.specs.{Segments.{with_pixel, with_place}, Text.{Drawing, entry_at}}
use Rattle.sixel_encoder.proofs.compact_form.SegmentSteps.{is_near, near-own}

-- ---- the segments of a band

-- no pixel
pub segments_up_to-none : (drawing : Drawing) (band : ℕ) → segments_up_to drawing band 0 ≡ []
unfolding segments_up_to
segments_up_to-none drawing band = refl

-- ---- all passes

-- no pass
pub passes-none : (segments : List Segment) → passes 0 segments ≡ segments
unfolding passes
passes-none segments = refl

-- one pass, and the others
pub passes-more : (n : ℕ) (segments : List Segment)
    → passes (n + 1) segments ≡ in_pass 0 segments ++ passes n (after_pass 0 segments)
unfolding passes
passes-more n segments = let e : n + 1 ≡ suc n = omega arith in ap (λ m. passes m segments) e

-- a pixel that is added twice
pub with_pixel-twice : (gap column entry : ℕ) (segments : List Segment)
    → with_pixel gap column entry (with_pixel gap column entry segments)
    ≡ with_pixel gap column entry segments
with_pixel-twice gap column entry [] = grind (arith, nat_tests)
with_pixel-twice gap column entry (segment ∷ segments) =
    let near = cases_Bool (is_near gap column entry segment) in
    grind (arith, nat_tests, with_pixel-twice gap column entry segments, is_near, near-own)

-- the segments after one pixel more of a column
segments_up_to-bit : (drawing : Drawing) (band column bit : ℕ) → bit < 6
    → segments_up_to drawing band (6 * column + (bit + 1))
    ≡ with_place (gap_of drawing) column (entry_at drawing column (6 * band + bit))
    (segments_up_to drawing band (6 * column + bit))
unfolding segments_up_to
segments_up_to-bit drawing band column bit l =
    let n : ℕ = 6 * column + bit in
    let next : 6 * column + (bit + 1) ≡ suc n = omega arith in
    rw next (grind (arith, nat_tests))

module _ (drawing : Drawing) (band column bit : ℕ) (items : List Segment) (l : bit < 6)
    (was : items ≡ segments_up_to drawing band (6 * column + bit)) where
  -- after a pixel with an entry
  pub segment-pixel : (gap entry : ℕ) (new : List Segment) → gap ≡ gap_of drawing
      → entry_at drawing column (6 * band + bit) ≡ Some entry
      → new ≡ with_pixel gap column entry items
      → new ≡ segments_up_to drawing band (6 * column + (bit + 1))
  segment-pixel gap entry new wide at is = grind (arith, nat_tests, segments_up_to-bit)

  -- after a transparent one
  pub segment-skip : entry_at drawing column (6 * band + bit) ≡ None
      → items ≡ segments_up_to drawing band (6 * column + (bit + 1))
  segment-skip none = grind (arith, nat_tests, segments_up_to-bit)

-- the pixels of a column, each like the first
pub segment-uniform : (drawing : Drawing) (band column : ℕ) (items : List Segment)
    → items ≡ segments_up_to drawing band (6 * column + 1)
    → ((bit : ℕ) → bit < 6 → entry_at drawing column (6 * band + bit)
    ≡ entry_at drawing column (6 * band + 0))
    → (n : ℕ) → n < 6 → items ≡ segments_up_to drawing band (6 * column + (n + 1))
segment-uniform drawing band column items first same zero l = first
segment-uniform drawing band column items first same (suc n) l =
    let before = segment-uniform drawing band column items first same n (omega arith) in
    grind (arith, segments_up_to-bit, nat_tests, with_pixel-twice)

-- one pass of those that are left
pub passes-step : (n counter : ℕ) (ordered left next rest whole : List Segment) → counter < n
    → ordered ++ passes (n - counter) left ≡ whole → next ≡ ordered ++ in_pass 0 left
    → rest ≡ after_pass 0 left → next ++ passes (n - (counter + 1)) rest ≡ whole
passes-step n counter ordered left next rest whole l was is remain =
    let e : n - counter ≡ n - (counter + 1) + 1 = omega arith in
    grind (arith, nat_tests, passes-more, append_assoc)

-- no value
abbrev nothing : Option ℕ
nothing = None

-- a list of nothing has nothing anywhere
pub none-replicated : (n k : ℕ) → slice_index_or (replicate n (nothing)) k None ≡ None
none-replicated zero k = refl
none-replicated (suc n) zero = refl
none-replicated (suc n) (suc k) = none-replicated n k

-- a list of no segments
pub length-none : (segments : List Segment) → length segments ≡ 0 → segments ≡ []
length-none [] none = refl
length-none (segment ∷ segments) none = absurd (omega arith)

-- passes over no segment draw none
passes-nothing : (n : ℕ) → passes n [] ≡ []
unfolding passes
passes-nothing zero = refl
passes-nothing (suc n) = passes-nothing n

-- once none is left all are drawn
pub passes-end : (n : ℕ) (ordered left whole : List Segment) → left ≡ []
    → ordered ++ passes n left ≡ whole → ordered ≡ whole
passes-end n ordered left whole none was = grind (arith, nat_tests, append-nil, passes-nothing)
