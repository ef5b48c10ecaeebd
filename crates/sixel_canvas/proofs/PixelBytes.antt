-- What the bytes of a row are once those of one pixel more were written to it.
use Rattle.std.proofs.Common.{◌≡◌, ℕ, ◌+◌, ◌*◌, ◌/◌, ◌%◌, ◌<◌, ◌≤◌, List, length, get_or, inl, inr}
use Rattle.std.{proofs.Common.{arith, [], ◌∷◌, ◌++◌, take}, proofs.lemmas.Bool.cases_lt}
use Rattle.std.{proofs.lemmas.Bool.Decides.nat_tests, proofs.lemmas.Grind.get_or-set_at}
use Rattle.std.{proofs.lemmas.Grind.common_steps, proofs.lemmas.List.get_or_append_left}
use Rattle.std.proofs.lemmas.List.{get_or-append_right, get_or-set_other, length-set}
use Rattle.std.specs.Prelude.{slice_set, min, nat_lt, if◌then◌else◌}
use Rattle.sixel_canvas.{proofs.RowBytes.pixel_part, specs.Layout.pixel_at}

-- four bytes are a pixel
pub pixel_four : (bytes : List ℕ) (i : ℕ) → 4 * i + 4 ≤ length bytes →
    (get_or bytes (4 * i) 0 ∷ get_or bytes (4 * i + 1) 0 ∷ get_or bytes (4 * i + 2) 0
    ∷ get_or bytes (4 * i + 3) 0 ∷ []) ≡ pixel_at bytes i
pixel_four bytes i fits = grind (arith, common_steps, nat_tests)

-- the row with four bytes written from a place on
abbrev pub put : List ℕ → ℕ → List ℕ → List ℕ
put row at bytes =
    slice_set (slice_set
    (slice_set (slice_set row at (get_or bytes 0 0)) (at + 1) (get_or bytes 1 0)) (at + 2)
    (get_or bytes 2 0)) (at + 3) (get_or bytes 3 0)

pub put_len : (row : List ℕ) (at : ℕ) (bytes : List ℕ) → length (put row at bytes) ≡ length row
put_len row at bytes = grind (arith, nat_tests, length-set)

-- the bytes of one pixel more
pub put_more : (row bytes : List ℕ) (f : ℕ → List ℕ) (column : ℕ) → 4 * column + 4 ≤ length row
    → bytes ≡ f column → ((i : ℕ) → i < 4 * column → get_or row i 0 ≡ get_or (f (i / 4)) (i % 4) 0)
    → (i : ℕ) → i < 4 * (column + 1)
    → get_or (put row (4 * column) bytes) i 0 ≡ get_or (f (i / 4)) (i % 4) 0
put_more row bytes f column fits is before i up =
    grind (arith, nat_tests, get_or-set_at, get_or-set_other, length-set)

-- a pixel whose bytes are the same
pub pixel_kept : (now old : List ℕ) (k : ℕ) → 4 * k + 4 ≤ length now → 4 * k + 4 ≤ length old
    → ((i : ℕ) → 4 * k ≤ i → get_or now i 0 ≡ get_or old i 0) → pixel_at now k ≡ pixel_at old k
pixel_kept now old k fits inside same = grind (arith, nat_tests, pixel_four)

-- a row of stored pixels, and of background right of them
pub row_bytes : (f : List ℕ → List ℕ) (pixels background stored rest : List ℕ) (len i : ℕ) →
    length pixels % 4 ≡ 0 → len % 4 ≡ 0 → length stored ≡ min (length pixels) len →
    ((i : ℕ) → i < length stored
    → get_or stored i 0
    ≡ get_or (f (pixel_at (take (min (length pixels) len) pixels) (i / 4))) (i % 4) 0) →
    ((i : ℕ) → i < length rest → get_or rest i 0 ≡ get_or (f background) (i % 4) 0) →
    length stored + length rest ≡ len → i < len →
    get_or (stored ++ rest) i 0
    ≡ get_or (f (if nat_lt (i / 4) (length pixels / 4) then pixel_at pixels (i / 4)
    else background))
    (i % 4) 0
row_bytes f pixels background stored rest len i whole row least copied filled all inside =
    let n = min (length pixels) len in
    elim (cases_lt i (length stored)) [
      | inl left ↦
          let m = n / 4 in
          let fours : n ≡ 4 * m = omega (arith, whole, row) in
          let kept = pixel_part pixels 0 m (i / 4) (omega (arith, left, least, fours)) in
          grind (arith, get_or_append_left)
      | inr right ↦ grind (arith, get_or-append_right)
    ]
