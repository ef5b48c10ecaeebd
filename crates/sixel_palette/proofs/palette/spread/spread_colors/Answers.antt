use Rattle.std.proofs.Common.{[], get_or, arith}
use Rattle.std.proofs.lemmas.{List.get_or_default, List.Edits.map_over_more}
use Rattle.sixel_palette.specs.Spread.{spread_color}
use Rattle.sixel_palette.proofs.palette.spread.spread_colors.Goals as goal

pub loop-position-preserved : goal.loop-position-preserved
loop-position-preserved c =
    let f = spread_color c.args.amount c.args.mean in
    let color = get_or c.loop-position.colors c.loop-position.position [] in
    rw c.spread_color.ensures
    (map_over_more f c.args.colors.now c.loop-position.colors c.loop-position.position color
    (omega (arith, c.loop-position-test.true)) c.loop-position.invariant
    (get_or_default c.loop-position.colors c.loop-position.position [] color
    (omega (arith, c.loop-position.auto.colors, c.loop-position-test.true))))
