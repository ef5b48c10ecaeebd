use Rattle.sixel_canvas.{proofs.RowBytes.{taken, taken_len}, specs.inside.RowsState.final}
use Rattle.std.proofs.Common.{arith}
use Rattle.sixel_canvas.proofs.final_rows.FinalRows.take.Goals as goal

pub returns-clause-ok : goal.returns-clause-ok
returns-clause-ok c =
    let all = c.self.inside in
    let is =
    taken (final c.args.self.now) c.remove_front.new.bytes.items c.truncate.new.self.items
    c.add_pixels.new.bytes.items all.background c.args.width c.args.height all.rows c.self.told in
    grind (arith, is)

pub returns-clause-len : goal.returns-clause-len
returns-clause-len c =
    let all = c.self.inside in
    let is =
    taken_len c.remove_front.new.bytes.items c.truncate.new.self.items c.add_pixels.new.bytes.items
    all.background
    c.args.width c.args.height all.rows c.self.told in
    grind (arith, is)
