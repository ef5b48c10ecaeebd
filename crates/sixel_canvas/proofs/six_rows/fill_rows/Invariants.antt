use Rattle.std.specs.Prelude.{nat_lt, ◌&&◌}
use Rattle.sixel_base.specs.Picture.{covers}
use Rattle.sixel_canvas.specs.inside.Band.{AreDrawn}
use Rattle.sixel_canvas.proofs.six_rows.fill_rows.Given as goal

abbrev pub invariant-drawn : goal.invariant-drawn
invariant-drawn l =
    AreDrawn l.fn.pixels l.pixels l.cap
    (λ column k. nat_lt k l.bit && covers l.from l.to 0 l.bits column k) l.color
