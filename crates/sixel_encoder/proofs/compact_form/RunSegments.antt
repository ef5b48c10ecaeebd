-- The segments of a band after a run of columns whose pixels all have one entry.
use Rattle.std.proofs.Common.{None, Some, List, ap, arith, false, length, refl, set, [], suc, sym}
use Rattle.std.proofs.Common.{true, zero, ℕ, ◌++◌, ◌+◌, ◌-◌, ◌*◌, ◌<◌, ◌≤◌, ◌≡◌, ◌∙◌, ◌∷◌}
use Rattle.std.proofs.{lemmas.Bool.cases_Bool, lemmas.Bool.Decides.nat_tests}
use Rattle.std.specs.Prelude.{Option, slice_index_or}
use Rattle.sixel_encoder.specs.{Segments.{gap_of, segments_up_to, with_pixel}, Text.Drawing}
use Rattle.sixel_encoder.specs.{Text.entry_at, declared.segments.Segment.Segment}
use Rattle.sixel_encoder.specs.inside.Compact.{nth, with_run, AreLast}
use Rattle.sixel_encoder.proofs.compact_form.PassSteps.{segment-pixel, segment-skip}
use Rattle.sixel_encoder.proofs.compact_form.PassSteps.{segment-uniform}
use Rattle.sixel_encoder.proofs.compact_form.SegmentSteps.{AreLast-later, AreLast-near, AreLast-new}
use Rattle.sixel_encoder.proofs.compact_form.SegmentSteps.{grown, is_near, near-own}

-- a run of pixels of an entry
abbrev pub run_of : ℕ → ℕ → ℕ → Segment
run_of entry first end = record { entry = entry; first = first; end = end }

-- a segment with these parts is this one
pub run-made : (run : Segment) (entry first end : ℕ) → run.entry ≡ entry → run.first ≡ first
    → run.end ≡ end → run ≡ run_of entry first end
run-made run entry first end a b c = grind (arith, nat_tests)

-- a segment up to the end of a run
abbrev pub longer : Segment → Segment → Segment
longer run segment = record { entry = segment.entry; first = segment.first; end = run.end }

-- a run of one pixel
pub run-pixel : (gap column entry : ℕ) (segments : List Segment)
    → with_run gap (run_of entry column (column + 1)) segments
    ≡ with_pixel gap column entry segments
run-pixel gap column entry segments = grind (arith, nat_tests)

-- a segment that is not near a column is not near a later one
far-later : (gap first end entry : ℕ) (segment : Segment) → first ≤ end
    → is_near gap first entry segment ≡ false → is_near gap end entry segment ≡ false
far-later gap first end entry segment l far = grind (arith, nat_tests)

-- a run of one pixel more
run-more : (gap first end entry : ℕ) (segments : List Segment) → 0 < gap → first ≤ end
    → with_pixel gap end entry (with_run gap (run_of entry first end) segments)
    ≡ with_run gap (run_of entry first (end + 1)) segments
run-more gap first end entry [] some l = grind (arith, nat_tests)
run-more gap first end entry (segment ∷ segments) some l =
    let which = cases_Bool (is_near gap first entry segment) in
    grind (arith, nat_tests, run-more gap first end entry segments, is_near, near-own, far-later)

-- ---- the segment that a run joins

-- the first segment that is near goes on
pub run-near : (gap : ℕ) (run : Segment) (segments : List Segment) (k : ℕ) (near : Segment)
    → k < length segments → nth segments k ≡ near
    → ((j : ℕ) → j < k → is_near gap run.first run.entry (nth segments j) ≡ false)
    → is_near gap run.first run.entry near ≡ true
    → with_run gap run segments ≡ set segments k (longer run near)
run-near gap run [] k near l at before is = absurd (omega arith)
run-near gap run (segment ∷ segments) zero near l at before is = grind (arith, nat_tests)
run-near gap run (segment ∷ segments) (suc k) near l at before is =
    let next = λ (j : ℕ) (l : j < k). before (suc j) (omega arith) in
    let rest = run-near gap run segments k near (omega arith) at next is in
    let far = before 0 (omega arith) in
    grind (arith, nat_tests)

-- if none is near the run is a new one
pub run-new : (gap : ℕ) (run : Segment) (segments : List Segment)
    → ((j : ℕ) → j < length segments → is_near gap run.first run.entry (nth segments j) ≡ false)
    → with_run gap run segments ≡ segments ++ run ∷ []
run-new gap run [] none = refl
run-new gap run (segment ∷ segments) none =
    let rest = run-new gap run segments (λ j l. none (suc j) (omega arith)) in
    grind (arith, nat_tests, none 0)

module _ (segments : List Segment) (last : List (Option ℕ)) (gap : ℕ) (run : Segment)
    (some : run.first < run.end) (are : AreLast segments last gap run.first) where
  -- an entry's last segment goes on
  pub AreLast-longer : (k : ℕ) (near : Segment) → slice_index_or last run.entry None ≡ Some k
      → nth segments k ≡ near → AreLast (set segments k (longer run near)) last gap (run.end - 1)
  AreLast-longer k near is at = grind (arith, nat_tests, grown, AreLast-near, AreLast-later)

  -- an entry begins a segment with a run
  pub AreLast-run : run.entry < length last
      → ((j : ℕ) → j < length segments → is_near gap run.first run.entry (nth segments j) ≡ false)
      → AreLast (segments ++ run ∷ []) (set last run.entry (Some (length segments))) gap
      (run.end - 1)
  AreLast-run inside none = grind (arith, nat_tests, AreLast-new, AreLast-later, far-later)

-- ---- the columns of a band

-- the pixels of a column all have this entry, or none
abbrev pub IsColumn : Drawing → ℕ → ℕ → Option ℕ → Type 0
IsColumn drawing band column place =
    (bit : ℕ) → bit < 6 → entry_at drawing column (6 * band + bit) ≡ place

-- the column after this one
next-column : (drawing : Drawing) (band column : ℕ)
    → segments_up_to drawing band (6 * column + (5 + 1))
    ≡ segments_up_to drawing band (6 * (column + 1))
next-column drawing band column = grind (arith, nat_tests)

-- the first pixel of a column
first-pixel : (drawing : Drawing) (band column : ℕ)
    → segments_up_to drawing band (6 * column) ≡ segments_up_to drawing band (6 * column + 0)
first-pixel drawing band column = grind (arith, nat_tests)

-- one column of an entry
column-pixel : (drawing : Drawing) (band column entry : ℕ)
    → IsColumn drawing band column (Some entry)
    → with_pixel (gap_of drawing) column entry (segments_up_to drawing band (6 * column))
    ≡ segments_up_to drawing band (6 * (column + 1))
column-pixel drawing band column entry is =
    let new = with_pixel (gap_of drawing) column entry (segments_up_to drawing band (6 * column)) in
    segment-uniform drawing band column new (segment-pixel drawing band column 0 _ (omega arith)
    (first-pixel drawing band column) _ entry new refl (is 0 (omega arith)) refl)
    (λ bit l. is bit l ∙ sym (is 0 (omega arith))) 5 (omega arith) ∙ next-column drawing band column

-- one transparent column
column-none : (drawing : Drawing) (band column : ℕ) → IsColumn drawing band column None
    → segments_up_to drawing band (6 * column) ≡ segments_up_to drawing band (6 * (column + 1))
column-none drawing band column is =
    let items = segments_up_to drawing band (6 * column) in
    segment-uniform drawing band column items (segment-skip drawing band column 0 items
    (omega arith) (first-pixel drawing band column) (is 0 (omega arith)))
    (λ bit l. is bit l ∙ sym (is 0 (omega arith))) 5 (omega arith) ∙ next-column drawing band column

-- columns of an entry
columns-run : (drawing : Drawing) (band first entry n : ℕ) → 0 < gap_of drawing
    → ((k : ℕ) → k < n + 1 → IsColumn drawing band (first + k) (Some entry))
    → with_run (gap_of drawing) (run_of entry first (first + (n + 1)))
    (segments_up_to drawing band (6 * first)) ≡ segments_up_to drawing band (6 * (first + (n + 1)))
columns-run drawing band first entry zero some is =
    let start = segments_up_to drawing band (6 * first) in
    let e : first + (zero + 1) ≡ first + 1 = omega arith in
    let at : first + 0 ≡ first = omega arith in
    grind (arith, nat_tests, run-pixel, column-pixel)
columns-run drawing band first entry (suc n) some is =
    let e : first + (suc n + 1) ≡ first + (n + 1) + 1 = omega arith in
    let before = columns-run drawing band first entry n some (λ k l. is k (omega arith)) in
    let last = is (n + 1) (omega arith) in
    grind (arith, nat_tests, run-more, column-pixel)

-- transparent columns
columns-none : (drawing : Drawing) (band first n : ℕ)
    → ((k : ℕ) → k < n → IsColumn drawing band (first + k) None)
    → segments_up_to drawing band (6 * first) ≡ segments_up_to drawing band (6 * (first + n))
columns-none drawing band first zero is = grind (arith, nat_tests)
columns-none drawing band first (suc n) is =
    let e : first + n + 1 ≡ first + suc n = omega arith in
    columns-none _ _ _ _ (λ k l. is k (omega arith))
    ∙ (column-none _ _ _ (is n (omega arith)) ∙ ap (λ c. segments_up_to drawing band (6 * c)) e)

module _ (drawing : Drawing) (band first end : ℕ) (items : List Segment) (some : first < end)
    (was : items ≡ segments_up_to drawing band (6 * first))
    (alike : (bit : ℕ) → bit < 6
    → entry_at drawing first (6 * band + bit) ≡ entry_at drawing first (6 * band + 0))
    (same : (k bit : ℕ) → first ≤ k → k < end → bit < 6
    → entry_at drawing k (6 * band + bit) ≡ entry_at drawing first (6 * band + bit)) where
  -- the segments after columns that are like the first, whose pixels are all alike
  pub columns-whole : (gap lane : ℕ) (new : List Segment) → first < drawing.width
      → gap ≡ gap_of drawing → entry_at drawing first (6 * band + 0) ≡ Some lane
      → new ≡ with_run gap (run_of lane first end) items
      → new ≡ segments_up_to drawing band (6 * end)
  columns-whole gap lane new wide is at pushed =
      let n : ℕ = end - first - 1 in
      let e : first + (n + 1) ≡ end = omega arith in
      grind (arith, nat_tests, columns-run)

  -- and after transparent ones
  pub columns-blank : entry_at drawing first (6 * band + 0) ≡ None
      → items ≡ segments_up_to drawing band (6 * end)
  columns-blank at =
      let n : ℕ = end - first in
      let e : first + n ≡ end = omega arith in
      grind (arith, nat_tests, columns-none)
