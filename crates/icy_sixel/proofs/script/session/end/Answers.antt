use Rattle.icy_sixel.proofs.Outcomes.{finishes}
use Rattle.icy_sixel.proofs.script.session.end.Goals as goal

pub returns-in-Finish : goal.returns-in-Finish
returns-in-Finish c = λ bytes whole sound counted stands.
    let told = c.finish_image.ensures.finished c.requires.stored in
    let image = c.args.receiver.now.image in
    rw c.in-Finish.is (finishes c.finish_image.result _ c.args.receiver.now.decoder _ image.form
    image.bytes bytes _ _ c.finished.ensures whole sound counted stands
    (rw c.requires.start at told.finished.as_decoded) (rw c.requires.start at told.finished.ended)
    (rw (c.requires.accepted, c.requires.start) at told.finished.error)
    told.set told.kept)
