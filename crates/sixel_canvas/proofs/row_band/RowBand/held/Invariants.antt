use Rattle.std.proofs.Common.{◌≡◌, ℕ, List, length}
use Rattle.sixel_canvas.specs.inside.RowBand.{least, line_in}
use Rattle.sixel_canvas.proofs.row_band.RowBand.held.Given as goal

abbrev pub invariant-rows : goal.invariant-rows
invariant-rows l =
    (background : List ℕ)
    → l.held ≡ least (λ k. length (line_in l.self background k).row.pixels) l.k
