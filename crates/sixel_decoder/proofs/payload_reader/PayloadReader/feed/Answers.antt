use Rattle.std.proofs.Common.{◌≡◌, ℕ, List, Option, None, Some, Ok, Err, false, refl, sym, ◌∙◌}
use Rattle.std.proofs.{Common.{arith, subst}, lemmas.Bool.false≢true, lemmas.Bool.Decides.nat_tests}
use Rattle.std.specs.Prelude.{is_none}
use Rattle.sixel_base.specs.{Bytes.first_terminator, Status.status_of, Stroke.Origin}
use Rattle.sixel_base.specs.declared.error.SixelError.{SixelError}
use Rattle.sixel_base.specs.declared.status.SixelFeedResult.{SixelFeedResult}
use Rattle.sixel_canvas.specs.declared.drawing.Canvas.{Ghosts}
use Rattle.sixel_decoder.specs.Reception.{of_payload}
use Rattle.sixel_decoder.specs.declared.payload_parser.PayloadParser.{PayloadParser}
use Rattle.sixel_decoder.specs.inside.PayloadReader.{session_of, HasRead}
use Rattle.sixel_decoder.proofs.{chunks.FedImages.image_rejected, chunks.Feeds.payload_fed}
use Rattle.sixel_decoder.proofs.chunks.Joined.{ended_goes_on, ended_reads, open_goes_on}
use Rattle.sixel_decoder.proofs.chunks.Joined.{parser_read}
use Rattle.sixel_decoder.proofs.{chunks.Sessions.read_sound, dcs_sequences.Ends.terminator_same}
use Rattle.sixel_decoder.proofs.payload_reader.PayloadReader.feed.Goals as goal

-- the terminator that is stored is the first one
first_read : {C : Type 0} {canvas : Ghosts C} (parser : Option (PayloadParser C canvas))
    (o : Origin) (terminator : Option ℕ) (bytes : List ℕ) → HasRead parser o terminator bytes
    → first_terminator bytes ≡ terminator
first_read None o terminator bytes is = is
first_read (Some parser) o terminator bytes is = is.0

pub invariant_of-self-in-Some-terminator : goal.invariant_of-self-in-Some-terminator
invariant_of-self-in-Some-terminator g c =
    let inside = c.self.inside in
    let origin : Origin = (session_of inside).origin in
    let bytes : List ℕ = inside.log in
    let parser = c.in-Some.parser in
    let read = parser_read _ _ origin inside.terminator bytes c.in-Some.is c.self.invariant in
    let ended : HasRead (Some parser) origin (Some c.in-Some-terminator.byte) bytes =
    subst (λ (w : Option ℕ). HasRead (Some parser) origin w bytes) c.in-Some-terminator.is read in
    rw (c.extend.ensures, c.in-Some-terminator.is)
    (ended_reads origin parser bytes c.args.chunk.now c.in-Some-terminator.byte ended)

pub returns-in-Some-terminator-clause-fed : goal.returns-in-Some-terminator-clause-fed
returns-in-Some-terminator-clause-fed g c =
    let inside = c.self.inside in
    let origin : Origin = (session_of inside).origin in
    let bytes : List ℕ = inside.log in
    let chunk : List ℕ = c.args.chunk.now in
    let parser = c.in-Some.parser in
    let byte : ℕ = c.in-Some-terminator.byte in
    let fed : SixelFeedResult = record { consumed = 0; status = status_of (Some byte) } in
    let read = parser_read _ _ origin inside.terminator bytes c.in-Some.is c.self.invariant in
    let ended : HasRead (Some parser) origin (Some byte) bytes =
    subst (λ (w : Option ℕ). HasRead (Some parser) origin w bytes) c.in-Some-terminator.is read in
    let goes = ended_goes_on origin parser bytes chunk byte ended in
    let sound = read_sound (Some c.in-Some.parser) origin inside.terminator bytes read refl in
    rw (← c.self.view_is)
    (payload_fed (session_of inside) _ chunk fed (rw c.in-Some.is refl) refl refl
    (rw c.in-Some.is refl) c.extend.ensures sound (goes.0, goes.1, goes.3))

pub invariant_of-self-in-Ok : goal.invariant_of-self-in-Ok
invariant_of-self-in-Ok g c =
    let inside = c.self.inside in
    let origin : Origin = (session_of inside).origin in
    let bytes : List ℕ = inside.log in
    let read = parser_read _ _ origin inside.terminator bytes c.in-Some.is c.self.invariant in
    let goes =
    open_goes_on (Ok c.in-Ok.fed) origin c.in-Some.parser c.feed.new.self inside.terminator bytes
    c.args.chunk.now
    c.in-None.is read (c.in-Ok.ensures.feeds origin _) in
    let terminator = c.terminator-self-inside in
    let same = terminator_same terminator.result _ (sym terminator.ensures ∙ goes.1) in
    rw (c.extend.ensures, same) goes.2

pub returns-in-Ok-clause-fed : goal.returns-in-Ok-clause-fed
returns-in-Ok-clause-fed g c =
    let inside = c.self.inside in
    let origin : Origin = (session_of inside).origin in
    let bytes : List ℕ = inside.log in
    let read = parser_read _ _ origin inside.terminator bytes c.in-Some.is c.self.invariant in
    let goes =
    open_goes_on (Ok c.in-Ok.fed) origin c.in-Some.parser c.feed.new.self inside.terminator bytes
    c.args.chunk.now
    c.in-None.is read (c.in-Ok.ensures.feeds origin _) in
    let sound = read_sound (Some c.in-Some.parser) origin inside.terminator bytes read refl in
    rw (← c.self.view_is)
    (payload_fed (session_of inside) _ c.args.chunk.now c.in-Ok.fed (rw c.in-Some.is refl) refl
    refl (rw c.in-Some.is c.in-Ok.ensures.released) c.extend.ensures sound
    (goes.0, goes.1, goes.3))

pub returns-in-Err-clause-fed : goal.returns-in-Err-clause-fed
returns-in-Err-clause-fed g c =
    let inside = c.self.inside in
    let origin : Origin = (session_of inside).origin in
    let bytes : List ℕ = inside.log in
    let chunk : List ℕ = c.args.chunk.now in
    let error : SixelError = c.in-Err.error in
    let read = parser_read _ _ origin inside.terminator bytes c.in-Some.is c.self.invariant in
    let was : is_none inside.parser ≡ false = rw c.in-Some.is refl in
    rw (← c.self.view_is, c.payload_end-in-Err.ensures.error) (record {
      origin = refl;
      fed = image_rejected (of_payload (session_of inside)) _ chunk error
          (rw c.drop_parser.ensures refl) refl refl c.extend.ensures
          (read_sound inside.parser origin inside.terminator bytes c.self.invariant)
          (λ failed. absurd (false≢true (sym was ∙ failed)))
          (λ accepted. open_goes_on (Err error) origin c.in-Some.parser c.feed.new.self
          inside.terminator bytes chunk c.in-None.is read (c.in-Err.ensures.feeds origin _));
    })

pub returns-in-Err-clause-counted : goal.returns-in-Err-clause-counted
returns-in-Err-clause-counted g c =
    let inside = c.self.inside in
    let first = first_read _ (session_of inside).origin inside.terminator inside.log
    c.self.invariant in
    rw (← c.self.view_is, c.extend.ensures) (c.payload_end-in-Err.ensures.counted _ _ first).1

pub invariant_of-self-in-Err : goal.invariant_of-self-in-Err
invariant_of-self-in-Err g c =
    let inside = c.self.inside in
    let first = first_read _ (session_of inside).origin inside.terminator inside.log
    c.self.invariant in
    rw (c.drop_parser.ensures, c.extend.ensures)
    (c.payload_end-in-Err.ensures.counted inside.settings inside.log first).0

pub returns-in_default-clause-counted : goal.returns-in_default-clause-counted
returns-in_default-clause-counted g c =
    let inside = c.self.inside in
    let first = first_read _ (session_of inside).origin inside.terminator inside.log
    c.self.invariant in
    rw (← c.self.view_is, c.extend.ensures) (c.payload_end.ensures.counted _ _ first).1

pub invariant_of-self : goal.invariant_of-self
invariant_of-self g c =
    let inside = c.self.inside in
    let first = first_read _ (session_of inside).origin inside.terminator inside.log
    c.self.invariant in
    let counted = c.payload_end.ensures.counted inside.settings inside.log first in
    grind (arith, nat_tests)
