use Rattle.std.proofs.Common.{◌≡◌, ℕ, List, max, All, length}
use Rattle.std.specs.Prelude.{nat_le, nat_lt, ◌&&◌, if◌then◌else◌}
use Rattle.sixel_base.specs.Picture.{is_struck}
use Rattle.sixel_canvas.specs.inside.{RowBand.line_in, TaggedRow.{IsTaggedRow, tagged_pixel}}
use Rattle.sixel_canvas.proofs.StruckRows.{IsStruckAbove}
use Rattle.sixel_canvas.proofs.row_band.RowBand.draw.Given as goal

abbrev pub invariant-drawn : goal.invariant-drawn
invariant-drawn l =
    let rows = l.self-inside.rows.items in
    let old = l.fn.self in
    (length rows ≡ 6)
    × All IsTaggedRow rows
    × ((background : List ℕ) (column : ℕ)
    → IsStruckAbove (λ _ p. if nat_le l.from column && nat_lt column l.to then l.color else p)
    (is_struck 0 l.bits) l.bit (λ row. tagged_pixel (line_in old background row) column)
    (λ row. tagged_pixel (line_in rows background row) column))
    × ((background : List ℕ)
    → IsStruckAbove (λ _ n. max n l.to) (is_struck 0 l.bits) l.bit
    (λ row. length (line_in old background row).row.pixels)
    (λ row. length (line_in rows background row).row.pixels))
