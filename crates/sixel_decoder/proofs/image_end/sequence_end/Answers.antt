use Rattle.std.proofs.Common.{◌∙◌}
use Rattle.sixel_decoder.proofs.images.FoundPayloads.{tail_whole}
use Rattle.sixel_decoder.{proofs.images.ImageEnds.extends, specs.ImageEnds.inside}
use Rattle.sixel_decoder.proofs.image_end.sequence_end.Goals as goal

pub returns-clause-counted : goal.returns-clause-counted
returns-clause-counted c = λ bytes is.
    let start = c.inside_start-start.ensures in
    let tail = tail_whole c.inside_start-start.result c.args.chunk.now in
    let goes = c.add_inside-fed.ensures.goes (inside bytes) is.ended in
    extends bytes c.args.chunk.now _ c.add_inside-fed.result _ start.within
    (λ some. start.later (is.begun ∙ some)) (λ none. start.first (is.begun ∙ none))
    (rw tail at goes.0) (rw tail at goes.1)
