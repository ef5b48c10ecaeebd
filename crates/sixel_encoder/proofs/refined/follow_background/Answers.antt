use Rattle.std.proofs.Common.{arith, get_or}
use Rattle.std.proofs.lemmas.{List.get_or_default, List.Edits.map_over_more}
use Rattle.sixel_encoder.specs.RefinedText.{next_index}
use Rattle.sixel_encoder.proofs.refined.follow_background.Goals as goal

pub loop-pixel-preserved : goal.loop-pixel-preserved
loop-pixel-preserved c =
    let at = c.loop-pixel.pixel in
    let index = get_or c.loop-pixel.indices at 0 in
    rw c.saturating_add.ensures
    (map_over_more next_index c.args.indices.now c.loop-pixel.indices at index
    (omega (arith, c.loop-pixel-test.true)) c.loop-pixel.invariant
    (get_or_default c.loop-pixel.indices at 0 index
    (omega (arith, c.loop-pixel.auto.indices, c.loop-pixel-test.true))))
