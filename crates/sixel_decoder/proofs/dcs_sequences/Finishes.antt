-- What finishing a DCS sequence in its payload returns.
use Rattle.std.proofs.Common.{arith, ◌≡◌, ℕ, Bool, true, false, List, ◌++◌, refl, ap, sym, ◌∙◌}
use Rattle.std.proofs.Common.{Option, Some, None, Result, Ok, Err}
use Rattle.std.{proofs.lemmas.Bool.Decides.nat_tests, specs.Prelude.{◌&&◌, ◌||◌, if◌then◌else◌}}
use Rattle.sixel_base.{specs.Bytes.first_terminator, specs.Dcs.{Stage, stage_in_payload}}
use Rattle.sixel_base.specs.Dcs.{payload_status_by, dcs_status, ended_by, has_ended, can_finish}
use Rattle.sixel_base.{specs.Dcs.has_come, specs.Limits.Limit, specs.OneShot.{Payload, IsDecodedAs}}
use Rattle.sixel_base.{specs.Payload.{Image, fed_fault, payload_fault}, specs.Settings.Settings}
use Rattle.sixel_base.specs.declared.error.SixelError.{SixelError}
use Rattle.sixel_base.specs.declared.state.DecoderState.{DecoderState}
use Rattle.sixel_base.specs.declared.status.SixelDcsFeedStatus.{SixelDcsFeedStatus}
use Rattle.sixel_decoder.proofs.images.Finality.{found_fault_ended, found_image_ended}
use Rattle.sixel_decoder.{proofs.images.Finality.found_registers_ended, specs.FinalRows.found_pixel}
use Rattle.sixel_decoder.specs.FinishedImages.{IsFinished, IsTaken, found_followed}
use Rattle.sixel_decoder.specs.Reception.{Form, IsPayloadOf, OfPayload, OfString, Reception, found}
use Rattle.sixel_decoder.{specs.Reception.of_payload, specs.Session.{Session, decoder_of}}
use Rattle.sixel_decoder.specs.declared.decoded_payload.DecodedPayload.{DecodedPayload}
use Rattle.sixel_decoder.specs.inside.DcsState.{IsInPayload}
use Rattle.sixel_base.specs.OneShot as one_shot

has_come-ended : (o : Option ℕ) (rest : List ℕ)
    → has_ended (payload_status_by o rest) ≡ has_come (ended_by o rest)
has_come-ended None rest = refl
has_come-ended (Some t) rest = refl

-- a string in its payload has ended once the end has come
pub string_ended :
    (reader : Session) (decoder : DecoderState) (ended : Option SixelDcsFeedStatus) (bytes : List ℕ)
    → IsInPayload reader decoder ended bytes
    → has_ended (dcs_status bytes) ≡ has_come ended
string_ended reader decoder ended bytes is = grind (arith, nat_tests, has_come-ended)

pub sound_by : (limit : Limit) (payload rest : List ℕ) (o : Option ℕ) → first_terminator payload ≡ o
    → has_come (ended_by o rest) ≡ true
    → fed_fault limit payload ≡ None → payload_fault limit payload ≡ None
sound_by limit payload rest None is come sound = absurd cc
sound_by limit payload rest (Some t) is come sound = grind (arith, nat_tests)

-- whether a string in its payload can be finished
or_lenient : (lenient come : Bool) → (lenient && true) || come ≡ come || lenient
or_lenient true true = refl
or_lenient true false = refl
or_lenient false true = refl
or_lenient false false = refl

pub finish_told : (reader : Session) (decoder : DecoderState)
    (ended : Option SixelDcsFeedStatus) (bytes : List ℕ) → IsInPayload reader decoder ended bytes
    → can_finish decoder.pixel_limit bytes ≡ has_come ended || decoder.pixel_limit.lenient
finish_told reader decoder ended bytes is =
    let lenient : Bool = decoder.pixel_limit.lenient in
    ap (λ (w : Stage). (lenient && stage_in_payload w) || has_ended (dcs_status bytes)) is.reading
    ∙ ap (λ (come : Bool). (lenient && true) || come) (string_ended reader decoder ended bytes is)
    ∙ or_lenient lenient (has_come ended)

-- a payload that can be finished has no fault
pub finish_sound : (reader : Session) (decoder : DecoderState)
    (ended : Option SixelDcsFeedStatus) (bytes : List ℕ) → IsInPayload reader decoder ended bytes
    → can_finish decoder.pixel_limit bytes ≡ true
    → payload_fault decoder.pixel_limit reader.bytes ≡ None
finish_sound reader decoder ended bytes is = grind (arith, nat_tests, sound_by, string_ended)

-- ---- the image of a sequence is that of its payload

-- whatever follows a sequence that has ended, it is decoded as its bytes are
decoded_followed : (decoder : DecoderState) (bytes more : List ℕ) (image : Image)
    (after : List (List ℕ)) → IsDecodedAs decoder (one_shot.found bytes) image after
    → IsDecodedAs decoder (found_followed OfString bytes more) image after
decoded_followed decoder bytes more image after is =
    (elim (has_ended (dcs_status bytes)) as (λ t. has_ended (dcs_status bytes) ≡ t
    → IsDecodedAs decoder (one_shot.found (if t then bytes ++ more else bytes)) image after) [
      | true ↦ λ over. (
        found_fault_ended decoder.pixel_limit bytes more over ∙ is.0,
        found_image_ended decoder bytes more image over is.1,
        found_registers_ended decoder bytes more after over is.2,
      )
      | false ↦ λ on. is
    ]) refl

not_payload : (form : Form) (settings : Settings) → form ≡ OfString → form ≡ OfPayload settings → ⊥
not_payload form settings string payload = cc

finished_in : {A : Type 0} (image_of : A → Image) (registers_of : A → List (List ℕ))
    (payload : Session) (image : Reception) (result : Result A SixelError)
    → IsPayloadOf payload image → image.form ≡ OfString → payload.is_refused ≡ false
    → can_finish image.start.pixel_limit image.bytes ≡ true
    → payload_fault payload.origin.pixel_limit payload.bytes ≡ None
    → IsFinished image_of registers_of (of_payload payload) result
    → IsFinished image_of registers_of image result
finished_in image_of registers_of payload image (Ok done) is form accepted finishes sound told =
    let start : image.start ≡ decoder_of payload.origin = sym (ap decoder_of is.start) in
    let drawn : one_shot.found image.bytes ≡ Payload payload.origin.settings payload.bytes =
    rw form at is.drawn in
    record {
      image = rw (start, is.reading) told.image;
      registers = rw (start, is.reading) told.registers;
      found_image = rw (start, is.drawn) told.found_image;
      found_registers = rw (start, is.drawn) told.found_registers;
      as_decoded = λ more. rw (start, form) (decoded_followed (decoder_of payload.origin)
          image.bytes more (image_of done) (registers_of done) (rw drawn (told.as_decoded more)));
      area = rw start told.area;
      faultless = rw (start, is.drawn) told.faultless;
      accepted = sym is.refused ∙ accepted;
      ended = rw (form, finishes) refl;
      error = tt;
      refused = λ settings e of_payload. absurd (not_payload image.form settings form of_payload);
    }
finished_in image_of registers_of payload image (Err e) is form accepted finishes sound told =
    grind (arith, nat_tests, not_payload)

pub taken_in : (payload : Session) (image : Reception) (result : Result DecodedPayload SixelError)
    → IsPayloadOf payload image → image.form ≡ OfString → payload.is_refused ≡ false
    → can_finish image.start.pixel_limit image.bytes ≡ true
    → payload_fault payload.origin.pixel_limit payload.bytes ≡ None
    → IsTaken (of_payload payload) result → IsTaken image result
taken_in payload image result is form accepted finishes sound told =
    let start : image.start ≡ decoder_of payload.origin = sym (ap decoder_of is.start) in
    let shown : found_pixel image.start (found image.form image.bytes)
    ≡ found_pixel (decoder_of payload.origin) (Payload payload.origin.settings payload.bytes) =
    rw (start, is.drawn) refl in
    record {
      finished =
          rw shown (finished_in _ _ payload image result is form accepted finishes sound
          told.finished);
      first = rw (← is.released) told.first;
      report = rw (start, is.drawn) told.report;
    }
