use Rattle.std.proofs.lemmas.Result.{IfOk-weaker}
use Rattle.sixel_palette.proofs.refinement.Refinement.{refinement-below}
use Rattle.sixel_palette.proofs.dithering.nearest.Nearest.indices.Goals as goal

pub returns-in-Refined : goal.returns-in-Refined
returns-in-Refined c =
    let (same, room, amount, is) = rw c.in-Refined.is at c.requires in
    let it = c.in-Refined.refinement.now in
    let below = refinement-below c.args.image.now.pixels.now room amount it is in
    IfOk-weaker c.indices_of.result _ _
    (λ indices each. rw same (each it.entries.colors.items is.entries.squares
    (rw c.deref.ensures.value is.entries.nearest) below))
    c.indices_of.ensures
