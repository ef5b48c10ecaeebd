use Rattle.std.proofs.Common.{◌≡◌, ◌*◌, vec_len}
use Rattle.sixel_canvas.specs.inside.RowCanvas.{row_canvas_shown}
use Rattle.sixel_base.specs.Picture.{joined}
use Rattle.sixel_canvas.proofs.row_canvas.RowCanvas.pack.Given as goal

abbrev pub invariant-packed : goal.invariant-packed
invariant-packed l =
    (l.bytes.items
    ≡ joined (λ row. joined (λ column. row_canvas_shown l.self column row) l.width) l.row)
    × (vec_len l.bytes ≡ 4 * (l.width * l.row))
