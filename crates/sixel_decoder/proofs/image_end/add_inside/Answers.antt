use Rattle.std.proofs.Common.{sym, ◌∙◌}
use Rattle.sixel_decoder.proofs.images.ImageEnds.{goes_past}
use Rattle.sixel_decoder.proofs.image_end.add_inside.Goals as goal

pub returns-in-Some-clause-goes : goal.returns-in-Some-clause-goes
returns-in-Some-clause-goes c = λ before is.
    let end = c.end_later-end.ensures in
    goes_past before c.args.chunk.now _ c.in-Some.status _ (sym c.in-Some.is ∙ is) end.waiting
    end.over
