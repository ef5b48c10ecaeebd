use Rattle.std.proofs.Common.{◌+◌, ◌*◌, min}
use Rattle.sixel_base.specs.Picture.{covers}
use Rattle.sixel_canvas.specs.inside.Band.{AreDrawn}
use Rattle.sixel_canvas.proofs.six_rows.draw_narrow.Given as goal

abbrev pub invariant-drawn : goal.invariant-drawn
invariant-drawn l =
    AreDrawn l.fn.pixels l.pixels l.cap
    (covers l.from (min l.to (l.from + 8 * l.i)) 0 l.bits) l.color
