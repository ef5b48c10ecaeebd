use Rattle.sixel_base.specs.OneShot.{Payload}
use Rattle.icy_sixel.proofs.Outcomes.{decodes}
use Rattle.icy_sixel.proofs.script.take_step.Goals as goal

pub returns-in-DecodeFromDcs : goal.returns-in-DecodeFromDcs
returns-in-DecodeFromDcs c =
    let by = c.decode_from_dcs.ensures in
    rw c.in-DecodeFromDcs.is
    (decodes c.decode_from_dcs.result _ _ _
    (Payload c.in-DecodeFromDcs.settings c.in-DecodeFromDcs.bytes.now)
    c.decoded-in-DecodeFromDcs.ensures by.decoded by.registers by.set by.kept)
