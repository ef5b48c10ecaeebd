-- Writing the rows of a band, entry by entry and by parts of the palette: what is written, cleared
-- and still to come, and that nothing comes past the last entry.
use Rattle.std.proofs.Common.{◌≡◌, ℕ, ◌+◌, ◌*◌, ◌<◌, ◌≤◌, not, false, cond, List, ◌++◌, length}
use Rattle.std.proofs.Common.{get_or, append_assoc, ap, sym, ◌∙◌, arith, [], ◌≢◌, Bool, true, set}
use Rattle.std.specs.Prelude.{◌==◌}
use Rattle.std.proofs.lemmas.{Bool.false≢true, Bool.Decides.nat_tests, List.get_or-set_same}
use Rattle.std.proofs.lemmas.{List.{get_or-set_other, length-set}, List.Elements.All-from_get_or}
use Rattle.std.proofs.lemmas.{List.Folds.list_any_none, List.FromFn.length-map-range_with_len}
use Rattle.std.proofs.lemmas.List.FromFn.{get_or-map-range_with_len}
use Rattle.sixel_base.specs.Picture.{joined}
use Rattle.sixel_encoder.specs.declared.text.IndexedImage.{IndexedImage}
use Rattle.sixel_encoder.specs.Text.{has_dot, row_text, sixel_of, row_of, entry_text}
use Rattle.sixel_encoder.specs.inside.Grid.{cell, grid_row, grid_text, AreMarks, AreClear}
use Rattle.sixel_encoder.specs.inside.Indexed.{IsIndexed, drawing_of}
use Rattle.sixel_encoder.proofs.band_rows.Dots.{is_dot-zero, has_dot-some, has_dot-none}
use Rattle.sixel_encoder.proofs.band_rows.{Dots.{appended-more, appended-none}, Masks.sixel-past}
use Rattle.sixel_encoder.proofs.band_rows.RowParts.{grid_row-same}
use Rattle.sixel_encoder.proofs.JoinedLists.{joined-add, joined-past}

entry_text-past : (image : IndexedImage) (band entry : ℕ) → IsIndexed image
    → length image.colors.now ≤ entry → entry_text (drawing_of image) band entry ≡ []
entry_text-past image band entry is past =
    let drawing = drawing_of image in
    let row = row_of drawing band entry in
    let blank : has_dot row ≡ false =
    list_any_none _ row (All-from_get_or (λ bits. not (bits == 0) ≡ false) row 0 (λ x l.
    let lx : x < image.width =
    omega (arith, length-map-range_with_len (sixel_of drawing band entry) 0 image.width) in
    is_dot-zero (get_or row x 0) (get_or-map-range_with_len (sixel_of drawing band entry) 0
    image.width x x 0 lx (omega arith) ∙ sixel-past image band entry x is lx past))) in
    ap (λ b. cond b (row_text entry row) []) blank

-- the entries up to past the last are all entries
pub joined-all : (image : IndexedImage) (band count : ℕ) → IsIndexed image
    → length image.colors.now ≤ count
    → joined (entry_text (drawing_of image) band) count
    ≡ joined (entry_text (drawing_of image) band) (length image.colors.now)
joined-all image band count is all =
    joined-past _ _ _ all (λ k past. entry_text-past _ band _ is past)

-- a loop that appends what it joins, a part of the lists at a time: one more part
pub appended-part : (f : ℕ → List ℕ) (part count : ℕ) (start now new : List ℕ)
    → now ≡ start ++ joined f (part * count) → new ≡ now ++ joined (λ k. f (part * count + k)) count
    → new ≡ start ++ joined f ((part + 1) * count)
appended-part f part count start now new was is =
    let more : (part + 1) * count ≡ part * count + count = omega arith in
    is ∙ (ap (λ s. s ++ joined (λ k. f (part * count + k)) count) was
    ∙ (append_assoc start (joined f (part * count)) (joined (λ k. f (part * count + k)) count)
    ∙ ap (λ s. start ++ s) (sym (ap (λ n. joined f n) more ∙ joined-add f (part * count) count))))

-- The entries before n are written and cleared, the others are as they were.
pub record Progress (start now first rows : List ℕ) (marks used : List Bool) (width from n : ℕ)
    : Type 0 where
  pub text : now ≡ start ++ joined (grid_text first width from) n
  pub clear : AreClear rows used width n
  pub rest : (e x : ℕ) → n ≤ e → e < length used → x < width
      → cell rows width e x ≡ cell first width e x
  pub unread : (e : ℕ) → n ≤ e → get_or used e false ≡ get_or marks e false

module _ (start now first rows : List ℕ) (marks used : List Bool) (width from n : ℕ)
    (was : Progress start now first rows marks used width from n) where
  -- an entry with a mark is written and cleared
  pub progress-used : (new after : List ℕ) → AreMarks first marks width → length used ≡ length marks
      → n < length used → get_or used n false ≡ true
      → new ≡ now ++ row_text (from + n) (grid_row rows width n)
      → ((x : ℕ) → x < width → cell after width n x ≡ 0)
      → ((e x : ℕ) → e ≢ n → x < width → cell after width e x ≡ cell rows width e x)
      → Progress start new first after marks (set used n false) width from (n + 1)
  progress-used new after are size l is text blank others =
      let row = grid_row-same rows first width n (λ x lx. was.rest n x (omega arith) l lx) in
      let part : row_text (from + n) (grid_row rows width n) ≡ grid_text first width from n =
      grind (arith, nat_tests, has_dot-some) in
      let text = appended-more _ _ _ _ _ _ was.text text part in
      grind (arith, nat_tests, get_or-set_same, get_or-set_other, length-set)

  -- an entry with no mark has no dot
  pub progress-unused : AreMarks first marks width → length used ≡ length marks → n < length used
      → get_or used n false ≡ false → Progress start now first rows marks used width from (n + 1)
  progress-unused are size l is = grind (arith, nat_tests, false≢true, appended-none, has_dot-none)
