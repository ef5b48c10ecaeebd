-- What a step comes to, by what the calls that it makes ensure, and a run of steps with one more.
use Rattle.std.proofs.Common.{List, [], ◌∷◌, ◌++◌, arith, ◌≡◌, ℕ, None}
use Rattle.std.proofs.{lemmas.Bool.Decides.nat_tests, lemmas.List.append-nil}
use Rattle.sixel_base.specs.declared.state.DecoderState.{DecoderState}
use Rattle.sixel_base.specs.{declared.error.SixelError.SixelError, Fault.Faults, Decoder.IsSetAs}
use Rattle.sixel_base.specs.{Payload.Image, Dcs.{dcs_status, has_ended}, Limits.Limit}
use Rattle.sixel_base.specs.OneShot.{Found, IsDecodedAs, IsFoundImage, AreFoundRegisters}
use Rattle.icy_sixel.specs.{ImageView.image_value, Receiver.{Form, Nothing, OfPayload, OfString}}
use Rattle.icy_sixel.specs.Receiver.{fault, growths, found, found_followed, end_fault, end_wants}
use Rattle.icy_sixel.specs.Script.{IsOutcome, AreOutcomes, IsDecoding, IsSessionOutcome}
use Rattle.icy_sixel.specs.{declared.script.End.End, declared.script.End.TheVariants.Finish}
use Rattle.icy_sixel.specs.declared.script.Outcome.{Outcome}
use Rattle.icy_sixel.specs.declared.script.Outcome.TheVariants.{Failed, Finished, Decoded}
use Rattle.icy_sixel.specs.{declared.script.Step.Step, declared.sixel_image.SixelImage.SixelImage}
use Rattle.icy_sixel.specs.inside.Session.{IsWhole, meaning, whole_fault}
use Rattle.std.specs.Prelude.{nat_lt, ◌||◌, if◌then◌else◌, is_none, Result, Ok, Err, MatchResult}
use Rattle.std.specs.Prelude.{IfOk, IfErr, OnOk, OnErr}
use Rattle.sixel_decoder.specs.{OneShotCalls.IsDecoded, declared.received.Status.Status}
use Rattle.sixel_decoder.proofs.{chunks.ParserSteps.Faults-along, chunks.PayloadFaults.or_right}
use Rattle.sixel_decoder.proofs.chunks.PayloadFaults.{payload_refused}
use Rattle.icy_sixel.proofs.Chunks.{same, front_whole}
use Rattle.icy_sixel.specs.Receiver as images

pub AreOutcomes-push : (before between after : DecoderState) (steps : List Step)
    (outcomes : List Outcome) (step : Step) (outcome : Outcome)
    → AreOutcomes before steps outcomes between → IsOutcome between step outcome after
    → AreOutcomes before (steps ++ step ∷ []) (outcomes ++ outcome ∷ []) after
AreOutcomes-push before between after [] [] step outcome are is = grind (arith, nat_tests)
AreOutcomes-push before between after [] (o ∷ outcomes) step outcome are is = absurd are
AreOutcomes-push before between after (s ∷ steps) [] step outcome are is = absurd are
AreOutcomes-push before between after (s ∷ steps) (o ∷ outcomes) step outcome are is =
    (are.0, are.1, AreOutcomes-push are.0 between after steps outcomes step outcome are.2 is)

-- ---- a session that is rejected as it is fed

-- it would be rejected as it is finished
fed_fails : (e : SixelError) (limit : Limit) (form : Form) (bytes : List ℕ)
    → Faults e (nat_lt 0 (growths form bytes)) (fault limit form bytes)
    → Faults e (is_none (whole_fault limit form bytes) || nat_lt 0 (growths form bytes))
    (whole_fault limit form bytes)
fed_fails e limit form bytes refused = grind (arith, Faults-along, payload_refused, or_right)

pub fails : (e : SixelError) (before after : DecoderState) (form : Form) (bytes : List ℕ)
    (ending : End) → Faults e (nat_lt 0 (growths form bytes)) (fault before.pixel_limit form bytes)
    → after ≡ before
    → IsSessionOutcome before (meaning before.pixel_limit form bytes) ending (Failed e) after
fails e before after form bytes ending refused kept = grind (arith, nat_tests, fed_fails)

-- ---- a session that is finished

-- what is rejected as it is finished, though no feed was
end_fails : (e : SixelError) (limit : Limit) (form : Form) (bytes : List ℕ)
    → fault limit form bytes ≡ None
    → Faults e (end_wants limit form bytes) (end_fault limit form bytes)
    → Faults e (is_none (whole_fault limit form bytes) || nat_lt 0 (growths form bytes))
    (whole_fault limit form bytes)
end_fails e limit form bytes sound refused = grind (arith, nat_tests)

-- what is finished is sound
end_sound : (limit : Limit) (form : Form) (bytes : List ℕ) → fault limit form bytes ≡ None
    → end_fault limit form bytes ≡ None → whole_fault limit form bytes ≡ None
end_sound limit form bytes sound ends = grind (arith, nat_tests)

-- what follows the bytes fed of a DCS sequence that has ended makes up all bytes
followed_whole : (fed bytes : List ℕ) (whole : IsWhole OfString fed bytes)
    → (if has_ended (dcs_status fed) then fed ++ whole.left else fed) ≡ bytes
followed_whole fed bytes whole = grind (arith, append-nil)

-- the image and the registers of what was fed are those of all bytes
drawn_whole : (before : DecoderState) (form : Form) (fed bytes : List ℕ) (image : Image)
    (after : List (List ℕ)) (whole : IsWhole form fed bytes)
    → IsDecodedAs before (found_followed form fed whole.left) image after
    → IsFoundImage before (found form bytes) image
    × AreFoundRegisters before (found form bytes) after
drawn_whole before Nothing fed bytes image after whole decoded = absurd decoded.1
drawn_whole before (OfPayload settings) fed bytes image after whole decoded =
    let all = rw (front_whole settings fed bytes whole) at decoded in (all.1, all.2)
drawn_whole before OfString fed bytes image after whole decoded =
    let all = rw (followed_whole fed bytes whole) at decoded in (all.1, all.2)

pub finishes : (answer : Result SixelImage SixelError) (outcome : Outcome)
    (before after : DecoderState) (form : Form) (fed bytes : List ℕ) (consumed : ℕ)
    (status : Status)
    → MatchResult answer
    (λ image. outcome ≡ Finished consumed status image)
    (λ e. outcome ≡ Failed e)
    → IsWhole form fed bytes → fault before.pixel_limit form bytes ≡ None
    → consumed ≡ images.count form bytes → status ≡ images.status form bytes
    → ((more : List ℕ)
    → IfOk answer
    (λ image.
    IsDecodedAs before (found_followed form fed more) (image_value image) after.registers))
    → OnOk answer (end_fault before.pixel_limit form fed ≡ None)
    → IfErr answer
    (λ e. Faults e (end_wants before.pixel_limit form fed) (end_fault before.pixel_limit form fed))
    → IsSetAs before after → OnErr answer (after ≡ before)
    → IsSessionOutcome before (meaning before.pixel_limit form bytes) Finish outcome after
finishes (Ok image) outcome before after form fed bytes consumed status is whole sound counted
    stands decoded ends refused set kept =
    let limit : Limit = before.pixel_limit in
    let ended = rw (same limit form fed bytes whole).ends at ends in
    let drawn = drawn_whole before form fed bytes _ _ whole (decoded whole.left) in
    rw is (end_sound limit form bytes sound ended, counted, stands, drawn.0, drawn.1, set)
finishes (Err e) outcome before after form fed bytes consumed status is whole sound counted stands
    decoded ends refused set kept =
    let one = same before.pixel_limit form fed bytes whole in
    let here = rw (one.wants, one.ends) at refused in
    rw is (end_fails e before.pixel_limit form bytes sound here, kept)

-- ---- what is decoded at once

pub decodes : (answer : Result SixelImage SixelError) (outcome : Outcome)
    (before after : DecoderState) (payload : Found)
    → MatchResult answer (λ image. outcome ≡ Decoded image) (λ e. outcome ≡ Failed e)
    → IsDecoded image_value before payload answer
    → OnOk answer (AreFoundRegisters before payload after.registers)
    → IsSetAs before after → OnErr answer (after ≡ before) → IsDecoding before payload outcome after
decodes answer outcome before after payload is decoded defined set kept = grind (arith, nat_tests)
