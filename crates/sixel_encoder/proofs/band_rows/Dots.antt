-- When an entry's row has a dot, and what its text is then.
use Rattle.std.proofs.Common.{◌≡◌, ℕ, ◌+◌, ◌<◌, true, false, not, List, ◌++◌, ap, sym, ◌∙◌, arith}
use Rattle.std.proofs.Common.{[], append_assoc}
use Rattle.std.specs.Prelude.{◌==◌}
use Rattle.std.proofs.lemmas.{Bool.Decides.nat_tests, List.append-nil, List.Folds.list_any_at}
use Rattle.std.proofs.lemmas.{List.Folds.list_any_none, List.FromFn.fill_by_all}
use Rattle.std.proofs.lemmas.List.FromFn.{length-map-range_with_len, get_or-map-range_with_len}
use Rattle.sixel_base.specs.Picture.{joined}
use Rattle.sixel_encoder.specs.Text.{Drawing, has_dot, sixel_of, row_of, entry_text}
use Rattle.sixel_encoder.specs.inside.Grid.{cell, grid_row, grid_text}
use Rattle.sixel_encoder.proofs.JoinedLists.{joined-none, joined-more, joined-same}
use Rattle.sixel_encoder.proofs.band_rows.RowParts.{All-grid_row}

pub is_dot-zero : (bits : ℕ) → bits ≡ 0 → not (bits == 0) ≡ false
is_dot-zero bits h = grind (arith, nat_tests)

pub has_dot-some : (rows : List ℕ) (width entry x : ℕ) → x < width → 0 < cell rows width entry x
    → has_dot (grid_row rows width entry) ≡ true
has_dot-some rows width entry x l some =
    let is = get_or-map-range_with_len (cell rows width entry) 0 width x x 0 l (omega arith) in
    grind (arith, nat_tests, list_any_at, not, length-map-range_with_len)

pub has_dot-none : (rows : List ℕ) (width entry : ℕ)
    → ((x : ℕ) → x < width → cell rows width entry x ≡ 0)
    → has_dot (grid_row rows width entry) ≡ false
has_dot-none rows width entry blank =
    list_any_none (λ bits. not (bits == 0)) (grid_row rows width entry)
    (All-grid_row (λ bits. not (bits == 0) ≡ false)
    rows width entry
    (λ x l. is_dot-zero (cell rows width entry x) (blank x l)))

-- a loop that appends what it joins: one list more
pub appended-more : (f : ℕ → List ℕ) (n : ℕ) (start now new part : List ℕ)
    → now ≡ start ++ joined f n → new ≡ now ++ part → part ≡ f n → new ≡ start ++ joined f (n + 1)
appended-more f n start now new part was is same = grind (arith, append_assoc, joined-more)

-- and an empty list more
pub appended-none : (f : ℕ → List ℕ) (n : ℕ) (start now : List ℕ) → now ≡ start ++ joined f n
    → f n ≡ [] → now ≡ start ++ joined f (n + 1)
appended-none f n start now was none =
    appended-more f n start now now [] was (sym (append-nil now)) (sym none)

-- a loop that appends what it joins, as it starts
pub appended-start : (f : ℕ → List ℕ) (start : List ℕ) → start ≡ start ++ joined f 0
appended-start f start = sym (ap (λ s. start ++ s) (joined-none f) ∙ append-nil start)

row-entry : (drawing : Drawing) (band from entry : ℕ) (rows : List ℕ)
    → ((x : ℕ) → x < drawing.width
    → cell rows drawing.width entry x ≡ sixel_of drawing band (from + entry) x)
    → grid_row rows drawing.width entry ≡ row_of drawing band (from + entry)
row-entry drawing band from entry rows h =
    fill_by_all (sixel_of drawing band (from + entry)) (grid_row rows drawing.width entry)
    drawing.width 0
    (length-map-range_with_len (cell rows drawing.width entry) 0 drawing.width)
    (grind (arith, nat_tests, get_or-map-range_with_len))

-- rows that hold a band's sixels of some entries have the text of these entries
pub joined-part : (drawing : Drawing) (band from count : ℕ) (rows : List ℕ)
    → ((e x : ℕ) → e < count → x < drawing.width
    → cell rows drawing.width e x ≡ sixel_of drawing band (from + e) x)
    → joined (grid_text rows drawing.width from) count
    ≡ joined (λ e. entry_text drawing band (from + e)) count
joined-part drawing band from count rows h = grind (arith, nat_tests, joined-same, row-entry)
