-- A lower bound of the bytes of a band of the plain text, from the columns before one. It is
-- internal to the encoder: the text of a drawing defines its output.
use Rattle.std.specs.{List.range_with_len, Prelude.{◌≡◌, ◌≢◌, ℕ, zero, suc, ◌+◌, ◌-◌, ◌<◌, ◌≤◌}}
use Rattle.std.specs.Prelude.{◌==◌, true, List, length, map, if◌then◌else◌, slice_index}
use Rattle.sixel_encoder.specs.{RunTokens.{cost, row_tokens, tokens_after}, Text.{Drawing, has_dot}}
use Rattle.sixel_encoder.specs.{Text.{row_of, sixel_of}, declared.bound.RowRuns.RowRuns}

-- the sum of a function at 0, 1, .. up to before n
unfoldable pub total : (ℕ → ℕ) → ℕ → ℕ
total f zero = 0
total f (suc n) = total f n + f n

-- the sixels of an entry's row from a column on
abbrev pub row_from : Drawing → ℕ → ℕ → ℕ → List ℕ
row_from drawing band entry column =
    map (sixel_of drawing band entry) (range_with_len column (drawing.width - column))

-- the bytes of a row from a run on, which begins at a column and goes on up to another at least
abbrev pub bytes_from : Drawing → ℕ → ℕ → ℕ → ℕ → ℕ
bytes_from drawing band entry column start =
    cost
    (tokens_after (column - start) (sixel_of drawing band entry (column - 1))
    (row_from drawing band entry column))

-- the bytes of the sixels of a row
abbrev pub row_bytes : Drawing → ℕ → ℕ → ℕ
row_bytes drawing band entry = cost (row_tokens (row_of drawing band entry))

-- the bytes of an entry's row that are not counted yet, if some are
abbrev pub bytes_left : Drawing → ℕ → ℕ → (ℕ → ℕ) → ℕ → ℕ
bytes_left drawing band column starts entry =
    if starts entry == 0 then 0 else bytes_from drawing band entry column (starts entry)

-- the bytes of an entry's row and four, if some are counted
abbrev pub bytes_due : Drawing → ℕ → (ℕ → ℕ) → ℕ → ℕ
bytes_due drawing band starts entry =
    if starts entry == 0 then 0 else row_bytes drawing band entry + 4

-- The starts are those of runs, and the counted bytes with those that are left are no more than
-- the rows have.
pub record IsBound (drawing : Drawing) (band column : ℕ) (runs : RowRuns) : Type 0 where
  pub order : (entry : ℕ) → slice_index runs.starts entry ≤ column
  pub dotted : (entry : ℕ) → 0 < slice_index runs.starts entry
      → has_dot (row_of drawing band entry) ≡ true
  pub bytes : runs.bytes
      + total (bytes_left drawing band column (slice_index runs.starts)) (length drawing.colors)
      ≤ 1 + total (bytes_due drawing band (slice_index runs.starts)) (length drawing.colors)

-- the row of an entry has another sixel in this column than in the one before
pub record IsChange (drawing : Drawing) (band entry column : ℕ) : Type 0 where
  pub inside : column < drawing.width
  pub known : entry < length drawing.colors
  pub other : sixel_of drawing band entry column ≢ sixel_of drawing band entry (column - 1)
  pub dotted : has_dot (row_of drawing band entry) ≡ true
