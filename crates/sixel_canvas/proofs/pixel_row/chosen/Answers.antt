use Rattle.std.proofs.Common.{arith}
use Rattle.sixel_canvas.proofs.Lanes.{get_or-chosen}
use Rattle.sixel_canvas.proofs.pixel_row.chosen.Goals as goal

pub returns : goal.returns
returns c =
    get_or-chosen c.args.sixels c.args.old c.args.bit c.args.new (omega arith) (omega arith)
