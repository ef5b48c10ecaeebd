-- Sixels that change bound the bytes of a band of the plain text from below, and bands bound those
-- of the whole text.
use Rattle.std.proofs.Common.{List, arith, length, length-append, ℕ, ◌+◌, ◌-◌, ◌≡◌, ◌≤◌, ◌≢◌, zero}
use Rattle.std.proofs.{Common.{suc, ◌<◌, ap, refl, replicate, slice_index}, lemmas.Bool.cases_eq}
use Rattle.std.proofs.{lemmas.Bool.Decides.nat_tests, lemmas.Fmt.decimal_nonempty}
use Rattle.sixel_base.specs.Picture.{joined}
use Rattle.sixel_encoder.specs.{Text.{Drawing, band_text}, declared.bound.RowRuns.RowRuns}
use Rattle.sixel_encoder.specs.inside.Bound.{IsBound, IsChange, bytes_due, bytes_from, bytes_left}
use Rattle.sixel_encoder.specs.inside.Bound.{row_bytes, total}
use Rattle.sixel_encoder.proofs.JoinedLists.{joined-add, joined-more}
use Rattle.sixel_encoder.proofs.band_rows.RowBounds.{bytes_from-end, bytes_from-last}
use Rattle.sixel_encoder.proofs.band_rows.RowBounds.{bytes_from-start, bytes_from-step}
use Rattle.sixel_encoder.proofs.band_rows.RunCost.{run_low}
use Rattle.std.specs.Prelude.{if◌then◌else◌, ◌==◌}

-- the first n lists are no longer than more of them
pub length-joined : (f : ℕ → List ℕ) (n m : ℕ) → n ≤ m → length (joined f n) ≤ length (joined f m)
length-joined f n m l =
    let e : m ≡ n + (m - n) = omega arith in
    grind (arith, nat_tests, joined-add, length-append)

-- one more band adds at least what it has at least
pub length-band : (drawing : Drawing) (band old least new : ℕ)
    → old ≤ length (joined (band_text drawing) band) → least ≤ length (band_text drawing band)
    → new ≤ old + least → new ≤ length (joined (band_text drawing) (band + 1))
length-band drawing band old least new low more le = grind (arith, joined-more, length-append)

-- ---- sums

-- equal functions have one sum
total-same : (f g : ℕ → ℕ) (n : ℕ) → ((k : ℕ) → k < n → g k ≡ f k) → total g n ≡ total f n
unfolding total
total-same f g zero same = refl
total-same f g (suc n) same =
    omega (arith, total-same f g n (λ k l. same k (omega arith)), same n (omega arith))

-- the sum of a function of which each value is at most two others
total-le : (f g h : ℕ → ℕ) (n : ℕ) → ((k : ℕ) → k < n → f k ≤ g k + h k)
    → total f n ≤ total g n + total h n
unfolding total
total-le f g h zero le = omega arith
total-le f g h (suc n) le =
    omega (arith, total-le f g h n (λ k l. le k (omega arith)), le n (omega arith))

-- the sum of zeros
total-zero : (n : ℕ) → total (λ k. 0) n ≡ 0
unfolding total
total-zero zero = refl
total-zero (suc n) = omega (arith, total-zero n)

-- a sum of which one value is another
total-other : (f g : ℕ → ℕ) (e n : ℕ) → e < n → ((k : ℕ) → k ≢ e → g k ≡ f k)
    → total g n + f e ≡ total f n + g e
unfolding total
total-other f g e zero l same = absurd (omega arith)
total-other f g e (suc n) l same =
    grind (arith, nat_tests, total-other f g e n, cases_eq n e, total-same)

-- how long joined lists are
length-total : (t : ℕ → List ℕ) (n : ℕ) → length (joined t n) ≡ total (λ k. length (t k)) n
unfolding joined total
length-total t zero = refl
length-total t (suc n) = omega (arith, length-append (joined t n) (t n), length-total t n)

-- ---- an entry whose row has no other run yet, and any other

-- the bytes that a run adds when it ends: up to three, and four if its row had no other
abbrev pub added : ℕ → ℕ → ℕ
added start three = if start == 0 then three + 4 else three

-- a run that ends keeps it
pub bound-end : (drawing : Drawing) (band column entry three : ℕ) (old new : RowRuns) → 0 < column
    → IsChange drawing band entry column → IsBound drawing band column old
    → ((k : ℕ) → k ≢ entry → slice_index new.starts k ≡ slice_index old.starts k)
    → slice_index new.starts entry ≡ column
    → new.bytes ≡ old.bytes + added (slice_index old.starts entry) three
    → three ≤ column - slice_index old.starts entry → three ≤ 3 → IsBound drawing band column new
bound-end drawing band column entry three old new some change is others here counted few most =
    let was = slice_index old.starts in
    let now = slice_index new.starts in
    let n = length drawing.colors in
    let left = bytes_left drawing band column in
    let due = bytes_due drawing band in
    let sum_left = total-other (left was) (left now) entry n change.known
    (λ k ne. ap (λ s. if s == 0 then 0 else bytes_from drawing band k column s) (others k ne)) in
    let sum_due = total-other (due was) (due now) entry n change.known
    (λ k ne. ap (λ s. if s == 0 then 0 else row_bytes drawing band k + 4) (others k ne)) in
    let ended = bytes_from-end drawing band entry column (was entry) change.inside (is.order entry)
    change.other in
    let low = run_low (column - was entry) three few most in
    grind (arith, bytes_from-start)

module _ (drawing : Drawing) (band column : ℕ) (runs : RowRuns) where
  -- ---- the bound

  -- before the first column no byte is counted but that of the graphics new line
  pub bound-start : ((entry : ℕ) → slice_index runs.starts entry ≡ 0) → runs.bytes ≡ 1
      → IsBound drawing band column runs
  bound-start none one = grind (arith, nat_tests)

  -- one more column keeps it
  pub bound-step : 0 < column → column < drawing.width → IsBound drawing band column runs
      → IsBound drawing band (column + 1) runs
  bound-step some l is =
      let starts = slice_index runs.starts in
      let n = length drawing.colors in
      let le =
      total-le (bytes_left drawing band (column + 1) starts) (bytes_left drawing band column starts)
      (λ k. 0) n (λ k lk. grind (arith, nat_tests, bytes_from-step)) in
      grind (arith, nat_tests, total-zero n)

  -- after the last column a band has the bytes that are counted
  pub bound-whole : length drawing.colors ≤ 256
      → ((entry : ℕ) → 0 < slice_index runs.starts entry
      → (drawing.width ≤ column) × (slice_index runs.starts entry < column))
      → IsBound drawing band column runs → runs.bytes ≤ length (band_text drawing band)
  bound-whole few past is =
      grind (arith, length-append, bytes_from-last, length-total, total-le, decimal_nonempty)

-- a list of zeros has zero anywhere
pub zero-replicated : (n k : ℕ) → slice_index (replicate n 0) k ≡ 0
zero-replicated zero k = refl
zero-replicated (suc n) zero = refl
zero-replicated (suc n) (suc k) = zero-replicated n k
