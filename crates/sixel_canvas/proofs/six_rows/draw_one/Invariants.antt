use Rattle.std.specs.Prelude.{◌+◌, nat_lt, ◌==◌, ◌&&◌, ◌||◌}
use Rattle.sixel_base.specs.Picture.{covers}
use Rattle.sixel_canvas.specs.inside.Band.{AreDrawn}
use Rattle.sixel_canvas.proofs.six_rows.draw_one.Given as goal

abbrev pub invariant-drawn : goal.invariant-drawn
invariant-drawn l =
    AreDrawn l.fn.pixels l.pixels l.cap (λ column k.
    (nat_lt k l.bit || k == l.first) && covers l.at (l.at + 1) 0 l.bits column k) l.color
