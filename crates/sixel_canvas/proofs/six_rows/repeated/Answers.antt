use Rattle.std.proofs.{Common.arith, lemmas.Bool.le-ltb}
use Rattle.sixel_canvas.proofs.Lanes.{lane_is}
use Rattle.sixel_canvas.proofs.six_rows.repeated.Goals as goal

pub returns : goal.returns
returns c = grind (arith, lane_is, le-ltb)
