-- The sixels of a greedy fill, one column more of it, and the blocked pixels after a segment.
use Rattle.std.proofs.lemmas.List.FromFn.{get_or-map-range_with_len, length-map-range_with_len}
use Rattle.std.proofs.lemmas.List.{get_or_append_left, get_or-append-add, get_or-set_other}
use Rattle.std.proofs.lemmas.List.{length-replicate, length-set, take_all, get_or-replicate}
use Rattle.std.proofs.lemmas.Grind.{same_number_lists, get_or-set_at, common_steps}
use Rattle.std.proofs.Common.{length-append, slice_index, replicate, length, arith, false}
use Rattle.std.proofs.Common.{List, refl, take, true, ◌++◌, zero, set, suc, ◌+◌, ◌-◌, ◌<◌}
use Rattle.std.proofs.Common.{◌∷◌, ◌≡◌, ◌≢◌, ◌≤◌, ◌∙◌, inl, inr, ap, [], ℕ}
use Rattle.std.proofs.lemmas.List.Elements.{All-replicate, All-append}
use Rattle.std.proofs.lemmas.Nat.Bits.{bit_at-zero, bit_at_and, bit_at-lt, bit_at_or}
use Rattle.std.proofs.{lemmas.Bool.Decides.nat_tests, lemmas.Bool.cases_eq, lemmas.Nat.or_lt}
use Rattle.std.specs.{Int.bit_at, Int.Bits.{bit_or, bit_and}, List.range_with_len, Prelude.{◌==◌}}
use Rattle.std.specs.Prelude.{All}
use Rattle.sixel_encoder.specs.{Compact.{blocked_after, fill_after, union}, Text.Drawing}
use Rattle.sixel_encoder.specs.{Text.sixel_of, declared.segments.Segment.Segment}

-- each bit of a is one of b
abbrev pub IsPart : ℕ → ℕ → Type 0
IsPart a b = (i : ℕ) → bit_at a i ≤ bit_at b i

-- a and b have no bit in common
abbrev pub AreApart : ℕ → ℕ → Type 0
AreApart a b = (i : ℕ) → bit_at a i + bit_at b i ≤ 1

-- numbers with no common bit, by the test
apart-and : (a b : ℕ) → bit_and a b ≡ 0 → AreApart a b
apart-and a b none i =
    let bit : bit_at (bit_and a b) i ≡ 0 = ap (λ n. bit_at n i) none ∙ bit_at-zero i in
    omega (arith, bit, bit_at_and a b i, bit_at-lt a i, bit_at-lt b i)

-- a sixel of the fill has the bits of a column and none that is banned there
pub record IsFilled (bits ban value : ℕ) : Type 0 where
  pub all : IsPart bits value
  pub none : AreApart value ban

-- the sixels of a fill
pub record IsFill (own blocked : ℕ → ℕ) (bits ban count : ℕ) (columns row : List ℕ) : Type 0 where
  pub size : length row ≡ count + length columns
  pub first : (k : ℕ) → k < count → IsFilled bits ban (slice_index row k)
  pub then : (k : ℕ) → k < length columns
      → IsFilled (own (slice_index columns k)) (blocked (slice_index columns k))
      (slice_index row (count + k))

-- no column's own pixels are blocked
abbrev pub AreFit : (ℕ → ℕ) → (ℕ → ℕ) → List ℕ → Type 0
AreFit own blocked columns =
    (k : ℕ) → k < length columns
    → AreApart (own (slice_index columns k)) (blocked (slice_index columns k))

-- the run goes on over a column
IsFill-on : (own blocked : ℕ → ℕ) (bits ban count column : ℕ) (columns row : List ℕ)
    → IsFill own blocked (bit_or bits (own column)) (bit_or ban (blocked column)) (count + 1)
    columns row
    → IsFill own blocked bits ban count (column ∷ columns) row
IsFill-on own blocked bits ban count column columns row is = record {
  size = omega (arith, is.size);
  first = λ k l. let own = is.first k (omega arith) in grind (arith, nat_tests, bit_at_or);
  then = then;
}
  where
    then : (k : ℕ) → k < suc (length columns)
        → IsFilled (own (slice_index (column ∷ columns) k))
        (blocked (slice_index (column ∷ columns) k)) (slice_index row (count + k))
    then zero l = let own = is.first count (omega arith) in grind (arith, nat_tests, bit_at_or)
    then (suc k) l = let own = is.then k (omega arith) in grind (arith, nat_tests)

-- or it ends before the column
IsFill-off : (own blocked : ℕ → ℕ) (bits ban count column : ℕ) (columns row : List ℕ)
    → AreApart bits ban → IsFill own blocked (own column) (blocked column) 1 columns row
    → IsFill own blocked bits ban count (column ∷ columns) (replicate count bits ++ row)
IsFill-off own blocked bits ban count column columns row apart is = record {
  size = grind (arith, nat_tests, length-append, length-replicate);
  first = λ k l. grind (arith, nat_tests, get_or_append_left, length-replicate, get_or-replicate);
  then = then;
}
  where
    then : (k : ℕ) → k < suc (length columns)
        → IsFilled (own (slice_index (column ∷ columns) k))
        (blocked (slice_index (column ∷ columns) k))
        (slice_index (replicate count bits ++ row) (count + k))
    then zero l =
        let own = is.first 0 (omega arith) in
        grind (arith, nat_tests, get_or-append-add, length-replicate)
    then (suc k) l =
        let own = is.then k (omega arith) in
        grind (arith, nat_tests, get_or-append-add, length-replicate)

-- then a fill is one
pub IsFill-fill : (own blocked : ℕ → ℕ) (bits ban count : ℕ) (columns : List ℕ)
    → AreFit own blocked columns → AreApart bits ban
    → IsFill own blocked bits ban count columns (fill_after own blocked bits ban count columns)
IsFill-fill own blocked bits ban count [] fits apart =
    grind (arith, nat_tests, length-replicate, get_or-replicate)
IsFill-fill own blocked bits ban count (column ∷ columns) fits apart =
    let more = bit_or bits (own column) in
    let wider = bit_or ban (blocked column) in
    let rest : AreFit own blocked columns = λ k l. fits (suc k) (omega (arith, l)) in
    let longer = IsFill-fill own blocked more wider (count + 1) columns rest in
    let fresh =
    IsFill-fill own blocked (own column) (blocked column) 1 columns rest (fits 0 (omega arith)) in
    elim (cases_eq (bit_and more wider) 0) [
      | inl none ↦
          let test : bit_and more wider == 0 ≡ true = grind (arith, nat_tests) in
          rw test (IsFill-on own blocked bits ban count column columns _
          (longer (apart-and more wider none)))
      | inr some ↦
          let test : bit_and more wider == 0 ≡ false = grind (arith, nat_tests) in
          rw test (IsFill-off own blocked bits ban count column columns _ apart fresh)
    ]

-- ---- a column of a fill

-- the columns from one on
range-more : (column len : ℕ) → column < len
    → range_with_len column (len - column)
    ≡ column ∷ range_with_len (column + 1) (len - (column + 1))
range-more column len l = grind (arith, nat_tests)

-- the sixels that are written and the fill that is left, which is of the columns up to an end
abbrev pub state : (ℕ → ℕ) → (ℕ → ℕ) → List ℕ → ℕ → ℕ → ℕ → ℕ → ℕ → List ℕ
state own blocked row bits ban count column end =
    row ++ fill_after own blocked bits ban count (range_with_len column (end - column))

-- the loop goes on with a run
pub fill-on : (own blocked : ℕ → ℕ) (row row1 whole : List ℕ)
    (bits ban bits1 ban1 from column end : ℕ) → column < end → from + length row ≤ column
    → row1 ≡ row → bits1 ≡ bit_or bits (own column) → ban1 ≡ bit_or ban (blocked column)
    → bit_and (bit_or bits (own column)) (bit_or ban (blocked column)) ≡ 0
    → state own blocked row bits ban (column - from - length row) column end ≡ whole
    → state own blocked row1 bits1 ban1 (column + 1 - from - length row1) (column + 1) end ≡ whole
fill-on own blocked row row1 whole bits ban bits1 ban1 from column end l short row_is bits_is ban_is
    none was = grind (arith, nat_tests, range-more)

-- the loop begins a run
pub fill-off : (own blocked : ℕ → ℕ) (row row1 whole : List ℕ)
    (bits ban bits1 ban1 from column end n m : ℕ) → column < end → from + length row ≤ column
    → n ≡ column - from → m ≡ length row → row1 ≡ take n row ++ replicate (n - m) bits
    → bits1 ≡ own column → ban1 ≡ blocked column
    → bit_and (bit_or bits (own column)) (bit_or ban (blocked column)) ≢ 0
    → state own blocked row bits ban (column - from - length row) column end ≡ whole
    → (state own blocked row1 bits1 ban1 (column + 1 - from - length row1) (column + 1) end ≡ whole)
    × (from + length row1 ≡ column)
fill-off own blocked row row1 whole bits ban bits1 ban1 from column end n m l short up long row_is
    bits_is ban_is some was =
    grind (arith, nat_tests, length-append, length-replicate, common_steps, range-more)

-- the loop ends
pub fill-end : (own blocked : ℕ → ℕ) (row row1 whole : List ℕ) (bits ban from column n m : ℕ)
    → from + length row ≤ column → n ≡ column - from → m ≡ length row
    → row1 ≡ take n row ++ replicate (n - m) bits
    → state own blocked row bits ban (column - from - length row) column column ≡ whole
    → row1 ≡ whole
fill-end own blocked row row1 whole bits ban from column n m short up long row_is was =
    grind (arith, nat_tests, take_all)

-- a fill has six bits in each column, if each own sixel has
pub All-fill : (own blocked : ℕ → ℕ) → ((column : ℕ) → own column < 64)
    → (bits ban count : ℕ) (columns : List ℕ) → bits < 64
    → All (λ b. b < 64) (fill_after own blocked bits ban count columns)
All-fill own blocked low bits ban count [] small = All-replicate (λ b. b < 64) count bits small
All-fill own blocked low bits ban count (column ∷ columns) small =
    let wider = All-fill own blocked low (bit_or bits (own column)) (bit_or ban (blocked column))
    (count + 1) columns (or_lt 6 bits (own column) small (low column)) in
    let next = All-append (λ b. b < 64) (replicate count bits) _
    (All-replicate (λ b. b < 64) count bits small)
    (All-fill own blocked low (own column) (blocked column) 1 columns (low column)) in
    grind (arith, nat_tests)

-- ---- a union

-- of no sixel
pub union-none : (sixels : List ℕ) (from : ℕ) → union sixels from 0 ≡ 0
unfolding union
union-none sixels from = refl

-- of one more
pub union-more : (sixels : List ℕ) (from n : ℕ)
    → union sixels from (n + 1) ≡ bit_or (union sixels from n) (slice_index sixels (from + n))
unfolding union
union-more sixels from n = let e : n + 1 ≡ suc n = omega arith in ap (union sixels from) e

-- ---- what may not be covered after a segment

-- the own pixels of some columns may not be covered either
pub record IsBlocking (old : List ℕ) (own : ℕ → ℕ) (first end : ℕ) (new : List ℕ) : Type 0 where
  pub wide : length new ≡ length old
  pub inside : (k : ℕ) → first ≤ k → k < end
      → slice_index new k ≡ bit_or (slice_index old k) (own k)
  pub before : (k : ℕ) → k < first → slice_index new k ≡ slice_index old k
  pub past : (k : ℕ) → end ≤ k → slice_index new k ≡ slice_index old k

-- one column more
pub blocked-more : (old was : List ℕ) (own : ℕ → ℕ) (first column value : ℕ)
    → column < length was → first ≤ column
    → value ≡ bit_or (slice_index old column) (own column)
    → IsBlocking old own first column was
    → IsBlocking old own first (column + 1) (set was column value)
blocked-more old was own first column value l low is are =
    grind (arith, nat_tests, length-set, get_or-set_at, get_or-set_other)

-- those of all columns of a segment
pub blocked-after : (drawing : Drawing) (band : ℕ) (old new : List ℕ) (segment : Segment)
    → IsBlocking old (sixel_of drawing band segment.entry) segment.first segment.end new
    → new ≡ blocked_after drawing band old segment
blocked-after drawing band old new segment are =
    grind (arith, same_number_lists, length-map-range_with_len, get_or-map-range_with_len)
