-- What a feed that succeeds does to a session, and what a byte of its own does to the parser.
use Rattle.std.proofs.Common.{◌≡◌, ℕ, ◌+◌, false, List, [], ◌∷◌, ◌++◌, sym, ◌∙◌, arith, None, Ok}
use Rattle.std.proofs.Common.{ap, refl, subst, Option, Some}
use Rattle.std.specs.Prelude.{is_some}
use Rattle.std.proofs.lemmas.Bool.Decides.{nat_tests}
use Rattle.sixel_base.specs.declared.state.DecoderState.{DecoderState}
use Rattle.sixel_base.specs.declared.status.SixelDcsFeedStatus.{SixelDcsFeedStatus}
use Rattle.sixel_base.specs.declared.status.SixelDcsFeedStatus.TheVariants.{NeedMoreData}
use Rattle.sixel_base.specs.declared.status.SixelFeedResult.{SixelFeedResult}
use Rattle.sixel_base.specs.{Bytes.{count, first_terminator, front}, History.{History, history_of}}
use Rattle.sixel_base.specs.{History.read, Payload.fed_fault, Status.status_of, Stroke.Origin}
use Rattle.sixel_canvas.specs.declared.drawing.Canvas.{Ghosts}
use Rattle.sixel_decoder.specs.{FedImages.of_payload_fed, Reception.{OfPayload, of_payload}}
use Rattle.sixel_decoder.specs.Session.{Session, decoder_of}
use Rattle.sixel_decoder.specs.declared.payload_parser.PayloadParser.{PayloadParser}
use Rattle.sixel_decoder.specs.declared.received.Status.TheVariants.{Payload}
use Rattle.sixel_decoder.specs.inside.{DcsState.{Follows, IsInPayload}, PayloadParser.Feeds}
use Rattle.sixel_decoder.specs.inside.{PayloadParser.Stands, PayloadReader.{GoesOn, HasRead}}
use Rattle.sixel_decoder.specs.inside.Runs.{IsPrintable}
use Rattle.sixel_decoder.proofs.chunks.{FedImages.image_fed, Joined.open_goes_on}
use Rattle.sixel_decoder.proofs.dcs_sequences.{Chunks.payload_follows, Ends.{goes_open, waiting_by}}
use Rattle.sixel_base.specs.declared.status.SixelFeedStatus.TheVariants as payload_status
use Rattle.sixel_decoder.specs.PayloadCalls as payloads
use Rattle.sixel_decoder.specs.declared.dcs_state.DcsState.TheVariants as states

-- ---- a payload

-- a printable byte neither ends a payload nor is ignored
pub feeds_byte : {C : Type 0} {canvas : Ghosts C} (o : Origin) (parser : PayloadParser C canvas)
    (h : History) (byte : ℕ) → IsPrintable byte → Stands o parser (read h byte)
    → Feeds payloads.byte_read o parser h (byte ∷ [])
feeds_byte o parser h byte is stands = grind (arith, nat_tests)

-- so a parser that has read it goes on
pub byte_goes_on : {C : Type 0} {canvas : Ghosts C} (o : Origin) (old new : PayloadParser C canvas)
    (terminator : Option ℕ) (before : List ℕ) (byte : ℕ)
    → is_some terminator ≡ false → HasRead (Some old) o terminator before → IsPrintable byte
    → ((h : History) → Stands o old h → Stands o new (read h byte))
    → GoesOn payloads.byte_read o new before (byte ∷ [])
    × HasRead (Some new) o terminator (before ++ byte ∷ [])
byte_goes_on o old new None before byte none is printable stands =
    let all : List ℕ = before ++ byte ∷ [] in
    let goes : GoesOn payloads.byte_read o new before (byte ∷ []) =
    open_goes_on payloads.byte_read o old new None before (byte ∷ []) refl is (λ stood.
    feeds_byte o new (history_of (front before)) byte printable
    (stands (history_of (front before)) stood)) in (
      goes,
      subst (λ (w : Option ℕ). HasRead (Some new) o w all)
          (waiting_by (first_terminator all) goes.1) goes.2,
    )
byte_goes_on o old new (Some t) before byte none is printable stands = absurd cc

-- a reader that went on was fed the chunk
pub payload_fed : (old new : Session) (chunk : List ℕ) (fed : SixelFeedResult)
    → old.is_refused ≡ false → new.is_refused ≡ false
    → new.origin ≡ old.origin → new.released ≡ old.released → new.bytes ≡ old.bytes ++ chunk
    → fed_fault old.origin.pixel_limit old.bytes ≡ None
    → (count old.bytes + fed.consumed ≡ count (old.bytes ++ chunk))
    × (fed.status ≡ status_of (first_terminator (old.bytes ++ chunk)))
    × (fed_fault old.origin.pixel_limit (old.bytes ++ chunk) ≡ None)
    → payloads.IsFed old new chunk (Ok fed)
payload_fed old new chunk fed was now origin released bytes sound goes = record {
  origin = origin;
  fed =
      image_fed (of_payload old) (of_payload new) chunk (of_payload_fed fed) was now
      (ap (λ (o : Origin). OfPayload o.settings) origin) (ap decoder_of origin) released bytes
      sound (goes.0, ap Payload goes.1, goes.2);
}

-- ---- a DCS sequence in its payload

-- a chunk of the payload without a terminator
pub open_follows : (C : Type 0) (old new : Session) (decoder : DecoderState)
    (ended : Option SixelDcsFeedStatus) (before chunk : List ℕ) (fed : SixelFeedResult)
    → IsInPayload old decoder ended before → payloads.IsFed old new chunk (Ok fed)
    → fed.status ≡ payload_status.NeedMoreData
    → Follows {C = C} (Ok (record { consumed = fed.consumed; status = NeedMoreData }))
    (states.Payload new) decoder ended before chunk
open_follows C old new decoder ended before chunk fed is now waits =
    let bytes : new.bytes ≡ old.bytes ++ chunk = now.fed.bytes refl in
    let stands : fed.status ≡ status_of (first_terminator new.bytes) = cc in
    let none : first_terminator (old.bytes ++ chunk) ≡ None =
    ap first_terminator (sym bytes)
    ∙ waiting_by (first_terminator new.bytes) (sym waits ∙ stands) in
    let counted : count old.bytes + fed.consumed ≡ count (old.bytes ++ chunk) =
    now.fed.consumed ∙ ap count bytes in
    let goes = goes_open old.bytes chunk fed.consumed ended is.ending none counted in
    payload_follows C old new decoder ended ended before chunk fed.consumed _ is now.origin
    bytes now.fed.ok.1 now.fed.faultless goes.0 goes.1
