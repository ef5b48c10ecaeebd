use Rattle.std.proofs.{Common.arith, lemmas.Bool.Decides.nat_tests, lemmas.Grind.common_steps}
use Rattle.sixel_base.specs.Picture.{joined, picture}
use Rattle.sixel_canvas.proofs.row_canvas.RowCanvas.pack.Goals as goal

pub packed-init : goal.packed-init
unfolding joined
packed-init c = (c.in_ok-bytes.ensures.items, omega (arith, c.in_ok-bytes.ensures.len))

pub packed-preserved : goal.packed-preserved
unfolding joined
packed-preserved c = grind (arith)

pub returns-clause-ok : goal.returns-clause-ok
unfolding picture
returns-clause-ok c = grind (arith, common_steps, nat_tests, c.packed.invariant.0)
