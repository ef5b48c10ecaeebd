use Rattle.std.proofs.Common.{◌≡◌, ◌∷◌, ◌++◌, [], false, ℕ, List, Some, refl, sym, ◌∙◌}
use Rattle.std.specs.Prelude.{is_none}
use Rattle.sixel_base.specs.declared.status.SixelFeedStatus.TheVariants.{NeedMoreData}
use Rattle.sixel_base.specs.Stroke.{Origin}
use Rattle.sixel_decoder.specs.PayloadCalls.{byte_read}
use Rattle.sixel_decoder.specs.inside.PayloadReader.{session_of, GoesOn, HasRead}
use Rattle.sixel_decoder.proofs.chunks.{Feeds.{byte_goes_on, payload_fed}, Sessions.read_sound}
use Rattle.sixel_decoder.proofs.chunks.Joined.{parser_read}
use Rattle.sixel_decoder.proofs.payload_reader.PayloadReader.try_byte.Given.{Over}
use Rattle.sixel_decoder.proofs.payload_reader.PayloadReader.try_byte.Goals as goal

-- the parser has read the byte
went_on : (g : Over) (c : goal.After-push g)
    → GoesOn byte_read (session_of c.self.inside).origin c.try_byte.new.self
    c.self.inside.log (c.args.byte ∷ [])
    × HasRead (Some c.try_byte.new.self) (session_of c.self.inside).origin
    c.self.inside.terminator (c.self.inside.log ++ c.args.byte ∷ [])
went_on g c =
    let inside = c.self.inside in
    let origin : Origin = (session_of inside).origin in
    let bytes : List ℕ = inside.log in
    let read = parser_read _ _ origin inside.terminator bytes c.in-Some.is c.self.invariant in
    byte_goes_on origin c.in-Some.parser c.try_byte.new.self inside.terminator bytes c.args.byte
    (sym c.is_some.ensures ∙ c.if-is_some.false) read
    (c.try_byte.ensures.printable c.if-not-try_byte.false)
    (c.try_byte.ensures.stands c.if-not-try_byte.false origin)

pub invariant_of-self-2 : goal.invariant_of-self-2
invariant_of-self-2 g c = rw c.push.ensures (went_on g c).1

pub returns-clause-fed : goal.returns-clause-fed
returns-clause-fed g c = λ told.
    let inside = c.self.inside in
    let origin : Origin = (session_of inside).origin in
    let goes = (went_on g c).0 in
    let was : is_none inside.parser ≡ false = rw c.in-Some.is refl in
    let sound =
    read_sound inside.parser origin inside.terminator inside.log
    c.self.invariant was in
    rw (← c.self.view_is)
    (payload_fed (session_of inside) _ (c.args.byte ∷ [])
    (record { consumed = 1; status = NeedMoreData }) was refl refl
    (rw c.in-Some.is c.try_byte.ensures.released) c.push.ensures sound
    (goes.0, goes.1, goes.3))
