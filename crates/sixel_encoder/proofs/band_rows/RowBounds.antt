-- How many bytes a row takes at least, from its sixels before a column.
use Rattle.std.proofs.Common.{◌≡◌, ◌≢◌, ℕ, zero, suc, ◌+◌, ◌-◌, ◌<◌, ◌≤◌, ◌∷◌, arith}
use Rattle.sixel_encoder.specs.Text.{Drawing, sixel_of}
use Rattle.sixel_encoder.specs.inside.Bound.{bytes_from, row_bytes, row_from}
use Rattle.sixel_encoder.proofs.band_rows.RunCost.{run_cost, run_cost0}
use Rattle.sixel_encoder.proofs.band_rows.ShortestRows.{left, left-other, left-same, left_cut}
use Rattle.std.proofs.lemmas.Bool.Decides.{nat_tests}

-- the sixels of a row from a column on: one, and the others
row_from-more : (drawing : Drawing) (band entry column : ℕ) → column < drawing.width
    → row_from drawing band entry column
    ≡ sixel_of drawing band entry column ∷ row_from drawing band entry (column + 1)
row_from-more drawing band entry column l = grind (arith, nat_tests)

-- one more column takes no byte from them
pub bytes_from-step : (drawing : Drawing) (band entry column start : ℕ) → 0 < column
    → column < drawing.width → start ≤ column
    → bytes_from drawing band entry (column + 1) start ≤ bytes_from drawing band entry column start
bytes_from-step drawing band entry column start some l order =
    grind (arith, nat_tests, left-same, left-other, left_cut, row_from-more)

-- a run that ends takes its own
pub bytes_from-end : (drawing : Drawing) (band entry column start : ℕ) → column < drawing.width
    → start ≤ column → sixel_of drawing band entry column ≢ sixel_of drawing band entry (column - 1)
    → run_cost (column - start) + bytes_from drawing band entry column column
    ≤ bytes_from drawing band entry column start
bytes_from-end drawing band entry column start l order other = grind (arith, left-other, run_cost0)

-- a row takes at least what it takes from its first run on
pub bytes_from-start : (drawing : Drawing) (band entry k : ℕ) → k < drawing.width
    → bytes_from drawing band entry (k + 1) 0 ≤ row_bytes drawing band entry
bytes_from-start drawing band entry zero l =
    let rest = row_from drawing band entry 1 in
    let size : drawing.width ≡ drawing.width - 0 = omega arith in
    grind (arith, nat_tests, row_from-more, left-same, rest, left, left-other, run_cost0)
bytes_from-start drawing band entry (suc k) l =
    grind (arith, nat_tests, bytes_from-step, bytes_from-start drawing band entry k (omega arith))

-- the last run takes a byte
pub bytes_from-last : (drawing : Drawing) (band entry column start : ℕ) → drawing.width ≤ column
    → start < column → 1 ≤ bytes_from drawing band entry column start
bytes_from-last drawing band entry column start l order = grind (arith, nat_tests)
