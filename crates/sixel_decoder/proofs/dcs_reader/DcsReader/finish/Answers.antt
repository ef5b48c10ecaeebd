use Rattle.std.proofs.Common.{◌≡◌, ℕ, List, true, ap, rules, subst, ◌∙◌, refl}
use Rattle.sixel_base.specs.{Dcs.can_finish, Payload.payload_fault, Stroke.Origin}
use Rattle.sixel_decoder.specs.inside.DcsState.{HasFollowed, IsInPayload}
use Rattle.sixel_decoder.specs.declared.dcs_state.DcsState.{DcsState}
use Rattle.sixel_decoder.proofs.dcs_sequences.Finishes.{finish_sound, finish_told, taken_in}
use Rattle.sixel_decoder.proofs.dcs_sequences.Payloads.{found_reading}
use Rattle.sixel_decoder.proofs.dcs_reader.DcsReader.finish.Goals as goal
use goal.{else-has_come, then-has_come}

pub returns-then-lenient : goal.returns-then-lenient
returns-then-lenient g c =
    let inside = c.self.inside in
    let reader = c.in-Payload.reader in
    let bytes : List ℕ = inside.log in
    let is : IsInPayload reader inside.decoder inside.ended bytes =
    subst (λ (p : DcsState _). HasFollowed p inside.decoder inside.ended bytes)
    c.in-Payload.is c.self.invariant in
    let finishes : can_finish inside.decoder.pixel_limit bytes ≡ true =
    finish_told reader inside.decoder inside.ended bytes is
    ∙ elim c.if-has_come.branch [
      | then-has_come w ↦ search rules
      | else-has_come w ↦ search rules
    ] in
    let sound =
    ap (λ (o : Origin). payload_fault o.pixel_limit reader.bytes) is.start
    ∙ finish_sound reader inside.decoder inside.ended bytes is finishes in
    rw (← c.self.view_is, c.in-Payload.is)
    (taken_in reader _ c.finish.result (record {
      reading = is.reading;
      drawn = found_reading bytes reader.origin.settings reader.bytes is.reading;
      start = is.start;
      refused = is.accepted;
      writes = refl;
      room = refl;
      paints = refl;
      released = refl;
    }) refl is.accepted finishes sound c.finish.ensures)
