use Rattle.std.proofs.Common.{◌≡◌, ℕ, ◌+◌, ◌-◌, List, take, get_or}
use Rattle.std.specs.Prelude.{nat_le, nat_lt, ◌&&◌, if◌then◌else◌}
use Rattle.sixel_base.specs.Picture.{is_struck}
use Rattle.sixel_canvas.specs.Drawn.{Run, with_sixels}
use Rattle.sixel_canvas.proofs.drawing.Canvas.draw_eight.Given as goal

abbrev pub invariant-drawn : goal.invariant-drawn
invariant-drawn g l =
    let shown = g.Self.Canvas.shown in
    let top = g.Self.Canvas.top in
    let released = g.Self.Canvas.released in
    let paid = g.Self.Canvas.paid in
    (top l.self ≡ top l.fn.self)
    × (released l.self ≡ released l.fn.self)
    × ((column row : ℕ)
    → shown l.self column row
    ≡ (if nat_le l.from column && nat_lt column (l.from + l.j)
    && is_struck (top l.fn.self) (get_or l.sixels (column - l.from) 0) row then l.color
    else shown l.fn.self column row))
    × ((named : ℕ) (runs : List Run) → paid l.fn.self named runs
    → paid l.self named (with_sixels l.from (take l.j l.sixels) (top l.fn.self) runs))
