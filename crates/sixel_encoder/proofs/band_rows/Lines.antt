-- The dots of a line in the rows of some entries: what a pixel adds there, a step past those that
-- add none, sixteen of one entry at once, and one part after another.
use Rattle.std.proofs.Common.{ℕ, replicate, nat_lt, get_or, length, arith, cond, List, Bool, true}
use Rattle.std.proofs.Common.{◌≡◌, ◌≢◌, ◌+◌, ◌-◌, ◌*◌, ◌<◌, ◌≤◌, set, ◌%◌, inl, inr}
use Rattle.std.{proofs.lemmas.Bool.{cases_eq, cases_lt}, proofs.lemmas.Bool.Decides.nat_tests}
use Rattle.std.proofs.lemmas.List.{get_or-set_other, get_or-set_same, length-set}
use Rattle.std.{proofs.lemmas.Nat.same_from_place, proofs.lemmas.Simd.get_or-put_chunk_below}
use Rattle.std.proofs.lemmas.Simd.{get_or-put_chunk_above, get_or-put_chunk_at, length-chunk}
use Rattle.std.proofs.lemmas.Simd.{get_or-chunk, get_or-zip2, get_or-replicate}
use lib.Lanes.{put_chunk, chunk, zip2}
use Rattle.sixel_encoder.specs.inside.Grid.{cell, dot_at, pixel_bit, between, AreMarks}
use Rattle.sixel_encoder.{specs.inside.Indexed.entry_of, proofs.band_rows.Cells.cell-dot}
use Rattle.sixel_palette.proofs.mapped_images.KeptEntries.{entry_of-opaque}

-- a pixel of another entry adds nothing
pub pixel_bit-other : (pixels indices : List ℕ) (weight entry pixel : ℕ)
    → get_or indices pixel 0 ≢ entry → pixel_bit weight entry (entry_of pixels indices pixel) ≡ 0
pixel_bit-other pixels indices weight entry pixel other = grind (arith, nat_tests)

-- an opaque pixel sets one in the row of its entry
pub pixel_bit-dot : (pixels indices : List ℕ) (weight first entry column pixel e : ℕ)
    → 128 ≤ get_or pixels (4 * pixel + 3) 0 → entry ≡ get_or indices pixel 0 → first ≤ entry
    → dot_at weight (entry - first) column e column
    ≡ pixel_bit weight (first + e) (entry_of pixels indices pixel)
pixel_bit-dot pixels indices weight first entry column pixel e opaque is from =
    grind (arith, nat_tests, entry_of-opaque)

-- a column with a set pixel more, and those after it that add nothing
pub column-dot : (bit : ℕ → ℕ) (rows : List ℕ) (width row column weight start n e x : ℕ)
    → row * width + column < length rows → column < width → x < width
    → cell rows width e x ≡ start + cond (nat_lt x column) (bit x) 0
    → dot_at weight row column e column ≡ bit column
    → (column < x → x < column + (1 + n) → bit x ≡ 0)
    → cell (set rows (row * width + column) (cell rows width row column + weight)) width e x
    ≡ start + cond (nat_lt x (column + (1 + n))) (bit x) 0
column-dot bit rows width row column weight start n e x inside lc lx before here after =
    grind (arith, nat_tests, cell-dot)

-- no place is between a place and itself
pub between-none : (from amount place : ℕ) → between from from amount place ≡ 0
between-none from amount place = grind (arith, nat_tests)

-- sixteen sixels that get the weight in lanes
lanes-more : (rows : List ℕ) (from weight : ℕ) → from + 16 ≤ length rows
    → ((k : ℕ) → from ≤ k → k < from + 16 → get_or rows k 0 + weight < 256) → (k : ℕ)
    → get_or (put_chunk from rows
    (zip2 (λ a b. (a + b) % 256) (chunk from 16 rows) (replicate 16 weight))) k 0
    ≡ get_or rows k 0 + between from (from + 16) weight k
lanes-more rows from weight inside fits k =
    let add = (λ (a b : ℕ). (a + b) % 256) in
    let old = chunk from 16 rows in
    let width = length-chunk from 16 rows inside in
    elim (cases_lt k from) [
      | inl below ↦ grind (arith, nat_tests, get_or-put_chunk_below)
      | inr above ↦ elim (cases_lt k (from + 16)) [
        | inl under ↦
            let j = k - from in
            let small : j < 16 = omega arith in
            let place : from + j ≡ k = omega arith in
            let lane =
            get_or-zip2 add old (replicate 16 weight) j 0 0 0 (omega (arith, width)) small in
            let was = rw place at (get_or-chunk from 16 rows j 0 small) in
            let amount = get_or-replicate 16 j weight 0 small in
            grind (arith, nat_tests, get_or-put_chunk_at, fits k)
        | inr past ↦ grind (arith, nat_tests, get_or-put_chunk_above)
      ]
    ]

-- sixteen sixels of an entry that get the weight in lanes
pub cell-run : (rows : List ℕ) (width row column weight : ℕ)
    → row * width + column + 16 ≤ length rows → column + 16 ≤ width
    → ((x : ℕ) → column ≤ x → x < column + 16 → cell rows width row x + weight < 256)
    → (e x : ℕ) → x < width
    → cell (put_chunk (row * width + column) rows (zip2 (λ a b. (a + b) % 256)
    (chunk (row * width + column) 16 rows) (replicate 16 weight))) width e x
    ≡ cell rows width e x + between column (column + 16) (dot_at weight row x e x) x
cell-run rows width row column weight inside lc fits e x lx =
    let place = e * width + x in
    let from = row * width + column in
    let other = same_from_place e x row (column + (place - from)) width lx in
    let own = lanes-more rows from weight inside
    (λ k f t. let there : row * width + (column + (k - from)) ≡ k = omega arith in
    grind (arith, nat_tests, fits)) place in
    grind (arith, nat_tests)

-- they keep the marks
pub AreMarks-run : (rows new : List ℕ) (used : List Bool) (width row column weight : ℕ)
    → AreMarks rows used width
    → ((e x : ℕ) → x < width → cell new width e x
    ≡ cell rows width e x + between column (column + 16) (dot_at weight row x e x) x)
    → row < length used → column + 16 ≤ width → 0 < weight
    → AreMarks new (set used row true) width
AreMarks-run rows new used width row column weight marks each le lc lw =
    let count = length-set used row true in
    record {
      dotted = λ e l is. elim (cases_eq e row) [
        | inl same ↦ let own = each e column (omega arith) in grind (arith, nat_tests)
        | inr apart ↦ grind (arith, nat_tests, get_or-set_other)
      ];
      marked = λ e x l lx some. grind (arith, nat_tests, get_or-set_same, get_or-set_other);
    }
