-- An entry's row as a part of the rows: what it has, and what a write to it leaves of the others.
use Rattle.std.proofs.Common.{◌≡◌, ◌≢◌, ℕ, ◌+◌, ◌*◌, ◌<◌, ◌≤◌, List, length, get_or, take, drop}
use Rattle.std.proofs.{Common.{◌∙◌, inl, inr, arith}, lemmas.Bool.cases_lt, lemmas.Nat.mul-le}
use Rattle.std.proofs.lemmas.List.{places, get_or-take, get_or-drop, length-take-le, length-drop}
use Rattle.std.proofs.lemmas.List.FromFn.{fill_by_all, length-map-range_with_len}
use Rattle.std.proofs.{lemmas.List.FromFn.get_or-map-range_with_len, lemmas.Bool.Decides.nat_tests}
use Rattle.std.specs.Prelude.{All}
use borrow.Rule.Slice.PartMut.{put_mid}
use Rattle.sixel_encoder.specs.inside.Grid.{cell, grid_row}

-- a part is as long as it is cut
pub length-part : (rows : List ℕ) (a k : ℕ) → a + k ≤ length rows
    → length (take k (drop a rows)) ≡ k
length-part rows a k h = length-take-le k (drop a rows) (omega (arith, length-drop a rows))

-- an entry's row, cut out of the rows
pub part-row : (rows : List ℕ) (width entry k : ℕ) → k ≡ width → entry * width + width ≤ length rows
    → take k (drop (entry * width) rows) ≡ grid_row rows width entry
part-row rows width entry k e h =
    fill_by_all _ _ _ _ (length-part rows (entry * width) k (omega arith) ∙ e) (λ j l.
    get_or-take k (drop (entry * width) rows) j 0 (omega arith)
    ∙ get_or-drop (entry * width) rows j 0)

pub All-grid_row : (P : ℕ → Type 0) (rows : List ℕ) (width entry : ℕ)
    → ((x : ℕ) → x < width → P (cell rows width entry x)) → All P (grid_row rows width entry)
All-grid_row P rows width entry h =
    grind (arith, nat_tests, length-map-range_with_len, get_or-map-range_with_len)

-- two rows with equal sixels are equal
pub grid_row-same : (rows others : List ℕ) (width entry : ℕ)
    → ((x : ℕ) → x < width → cell rows width entry x ≡ cell others width entry x)
    → grid_row rows width entry ≡ grid_row others width entry
grid_row-same rows others width entry h =
    fill_by_all _ _ _ _ (length-map-range_with_len (cell rows width entry) 0 width)
    (λ x l. get_or-map-range_with_len (cell rows width entry) _ _ _ _ 0 l (omega arith) ∙ h x l)

pub put-after : (xs ys : List ℕ) (a k n : ℕ) → a + k ≤ length xs → length ys ≡ k → a + k ≤ n
    → get_or (put_mid a k xs ys) n 0 ≡ get_or xs n 0
put-after xs ys a k n h e l = grind (arith, places)

-- a write to an entry's row changes no other row
pub cell-put_other : (rows ys : List ℕ) (width entry k e x : ℕ) → k ≡ width → length ys ≡ k
    → entry * width + width ≤ length rows → e ≢ entry → x < width
    → cell (put_mid (entry * width) k rows ys) width e x ≡ cell rows width e x
cell-put_other rows ys width entry k e x ek el h apart lx =
    elim (cases_lt e entry) [
      | inl lt ↦ grind (arith, nat_tests, places, mul-le (e + 1) width entry width)
      | inr ge ↦ grind (arith, nat_tests, put-after, mul-le (entry + 1) width e width)
    ]
