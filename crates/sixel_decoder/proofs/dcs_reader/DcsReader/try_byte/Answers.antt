use Rattle.std.proofs.Common.{◌≡◌, ◌∷◌, [], false, ℕ, List, refl, ap, subst, None}
use Rattle.sixel_base.specs.Dcs.{dcs_fault}
use Rattle.sixel_base.specs.declared.status.SixelDcsFeedStatus.TheVariants.{NeedMoreData}
use Rattle.sixel_decoder.{proofs.chunks.FedImages.image_fed, proofs.chunks.Feeds.open_follows}
use Rattle.sixel_decoder.proofs.chunks.Sessions.{followed_sound}
use Rattle.sixel_decoder.{proofs.dcs_reader.DcsReader.try_byte.Given.Over, specs.DcsCalls.byte_read}
use Rattle.sixel_decoder.{specs.Reception.of_sequence, specs.declared.dcs_state.DcsState.DcsState}
use Rattle.sixel_decoder.specs.declared.dcs_state.DcsState.TheVariants.{Payload}
use Rattle.sixel_decoder.specs.declared.received.Status.TheVariants.{Dcs}
use Rattle.sixel_decoder.specs.inside.DcsState.{Follows, HasFollowed, IsInPayload, is_failed}
use Rattle.sixel_decoder.specs.inside.DcsReader.{session_of}
use Rattle.sixel_base.specs.declared.status.SixelFeedStatus.TheVariants as payload_status
use Rattle.sixel_decoder.proofs.dcs_reader.DcsReader.try_byte.Goals as goal

-- the sequence goes on in its payload
followed : (g : Over) (c : goal.After-push g)
    → Follows {C = g.row.C.Denot} byte_read (Payload c.try_byte.new.self)
    c.self.inside.decoder c.self.inside.ended c.self.inside.log
    (c.args.byte ∷ [])
followed g c =
    let inside = c.self.inside in
    let bytes : List ℕ = inside.log in
    let is : IsInPayload c.in-Payload.reader inside.decoder inside.ended bytes =
    subst (λ (w : DcsState _). HasFollowed w inside.decoder inside.ended bytes) c.in-Payload.is
    c.self.invariant in
    open_follows g.row.C.Denot c.in-Payload.reader c.try_byte.new.self inside.decoder inside.ended
    bytes (c.args.byte ∷ []) (record { consumed = 1; status = payload_status.NeedMoreData }) is
    (c.try_byte.ensures.fed c.if-not-try_byte.false) refl

pub invariant_of-self-2 : goal.invariant_of-self-2
invariant_of-self-2 g c = rw c.push.ensures (followed g c).3

pub returns-clause-fed : goal.returns-clause-fed
returns-clause-fed g c = λ told.
    let inside = c.self.inside in
    let accepted : is_failed inside.state ≡ false = rw c.in-Payload.is refl in
    let sound : dcs_fault inside.decoder.pixel_limit inside.log ≡ None =
    followed_sound inside.state inside.decoder inside.ended inside.log c.self.invariant
    accepted in
    let goes = followed g c in
    rw (← c.self.view_is)
    (image_fed (of_sequence (session_of inside)) _ (c.args.byte ∷ [])
    (record { consumed = 1; status = Dcs NeedMoreData }) accepted refl refl refl
    (rw c.in-Payload.is (c.try_byte.ensures.fed c.if-not-try_byte.false).fed.released)
    c.push.ensures sound (goes.0, ap Dcs goes.1, goes.4))
