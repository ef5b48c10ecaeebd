use Rattle.std.proofs.Common.{◌≡◌, ◌≤◌, ℕ, All, length}
use Rattle.std.specs.Prelude.{vec_capacity}
use Rattle.sixel_canvas.specs.inside.{RowBand.line_in, TaggedRow.{IsTaggedRow, empty_tagged_row}}
use Rattle.sixel_canvas.proofs.row_band.RowBand.add_rows.Given as goal

abbrev pub invariant-made : goal.invariant-made
invariant-made l =
    (length l.rows.items ≡ l._row)
    × (l._row ≤ 6)
    × (vec_capacity l.rows ≡ 6)
    × ((k : ℕ) → line_in l.rows.items l.background k ≡ empty_tagged_row l.background)
    × All IsTaggedRow l.rows.items
