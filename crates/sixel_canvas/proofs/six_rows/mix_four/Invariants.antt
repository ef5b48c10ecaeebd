use Rattle.std.specs.Prelude.{nat_lt, ◌&&◌}
use Rattle.sixel_canvas.specs.inside.Band.{AreDrawn, covers_four}
use Rattle.sixel_canvas.proofs.six_rows.mix_four.Given as goal

abbrev pub invariant-mixed : goal.invariant-mixed
invariant-mixed l =
    AreDrawn l.fn.pixels l.pixels l.cap
    (λ column k. nat_lt k l.bit && covers_four l.from l.fn.sixels column k) l.fn.color
