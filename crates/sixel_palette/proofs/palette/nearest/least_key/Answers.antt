use Rattle.std.proofs.{Common.{take, get_or, sym, arith}, lemmas.List.take_more}
use Rattle.sixel_palette.specs.inside.Codes.{color_of}
use Rattle.sixel_palette.proofs.nearest_entries.Keys.{none, least_key-nil, least_key-push}
use Rattle.sixel_palette.proofs.palette.nearest.least_key.Goals as goal

pub loop-entry-init : goal.loop-entry-init
loop-entry-init c = sym (least_key-nil (color_of c.args.code))

pub loop-entry-preserved : goal.loop-entry-preserved
loop-entry-preserved c =
    let entries = c.args.entries.now in
    let i = c.loop-entry.entry-index in
    rw (take_more entries i none (omega arith))
    (omega (arith, least_key-push (take i entries) (get_or entries i none) (color_of c.args.code)))
