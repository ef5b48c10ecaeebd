use Rattle.std.proofs.{Common.{[], take, get_or, sym, arith}, lemmas.List.take_more}
use Rattle.sixel_palette.proofs.nearest_entries.Nearest.{nearest-nil, nearest-push}
use Rattle.sixel_palette.proofs.palette.nearest_entry.squared_to_nearest.Goals as goal

pub loop-index-init : goal.loop-index-init
loop-index-init c = sym (nearest-nil c.args.color)

pub loop-index-preserved : goal.loop-index-preserved
loop-index-preserved c =
    let entries = c.args.entries.now in
    let index = c.loop-index.index in
    rw (take_more entries index [] (omega arith))
    (omega (arith, nearest-push (take index entries) (get_or entries index []) c.args.color))
