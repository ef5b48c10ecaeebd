-- What a feed answers beside its count and its status: a session that was accepted had no fault, a
-- feed takes no more bytes than there are, and once the end has come it takes none.
use Rattle.std.proofs.Common.{◌≡◌, ℕ, ◌+◌, ◌≤◌, Bool, true, false, List, [], ◌∷◌, ◌++◌, refl, ap}
use Rattle.std.proofs.Common.{sym, ◌∙◌, arith, Option, Some, None, length, length-append, subst}
use Rattle.std.specs.Prelude.{◌==◌, nat_lt, is_none, is_some, MatchBool}
use Rattle.std.proofs.lemmas.{Bool.false≢true, Bool.Decides.nat_tests, List.length-drop}
use Rattle.sixel_base.specs.declared.error.SixelError.{SixelError}
use Rattle.sixel_base.specs.declared.error.SixelError.TheVariants.{InvalidDimensions}
use Rattle.sixel_base.specs.declared.error.SixelError.TheVariants.{BufferSizeMismatch, InvalidData}
use Rattle.sixel_base.specs.declared.error.SixelError.TheVariants.{NoSixelData, IntegerOverflow}
use Rattle.sixel_base.specs.declared.error.SixelError.TheVariants.{OutOfMemory}
use Rattle.sixel_base.specs.declared.state.DecoderState.{DecoderState}
use Rattle.sixel_base.specs.declared.status.SixelDcsFeedStatus.{SixelDcsFeedStatus}
use Rattle.sixel_base.specs.declared.status.SixelDcsFeedStatus.TheVariants.{NeedMoreData, Complete}
use Rattle.sixel_base.specs.declared.status.SixelDcsFeedStatus.TheVariants.{Cancelled, Interrupted}
use Rattle.sixel_base.specs.{Bytes.{front, count, first_terminator}, Dcs.{Stage, Heading, Failing}}
use Rattle.sixel_base.specs.Dcs.{Reading, stage, stage_count, stage_fault, after_terminator}
use Rattle.sixel_base.specs.Dcs.{end_count, payload_count, payload_status, dcs_status, dcs_count}
use Rattle.sixel_base.specs.{Dcs.{dcs_fault, dcs_growths, has_ended, IsSameString}, Fault.Faults}
use Rattle.sixel_base.specs.{History.history_of, Limits.Limit, Payload.{fed_fault, settled}}
use Rattle.sixel_base.specs.{Payload.growths, Stroke.Origin}
use Rattle.sixel_canvas.specs.declared.drawing.Canvas.{Ghosts}
use Rattle.sixel_decoder.specs.declared.dcs_state.DcsState.{DcsState}
use Rattle.sixel_decoder.specs.declared.payload_parser.PayloadParser.{PayloadParser}
use Rattle.sixel_base.proofs.ToleratedTokens.{effective-fault}
use Rattle.sixel_decoder.specs.inside.DcsState.{HasFollowed, is_failed}
use Rattle.sixel_decoder.specs.inside.{PayloadParser.StandsAfter, PayloadReader.HasRead}
use Rattle.sixel_decoder.proofs.chunks.Joined.{shown_after, before_terminator-whole}
use Rattle.sixel_decoder.proofs.chunks.ParserSteps.{Faults-along}
use Rattle.sixel_decoder.proofs.dcs_sequences.{Chunks.{heading, reading_fits}, Ends.count-fits}
use Rattle.sixel_decoder.proofs.dcs_sequences.Ends.{count_open, count_at, status_at}
use Rattle.sixel_decoder.proofs.dcs_sequences.Terminators.{drop-count, escape_waits, failing_stays}
use Rattle.sixel_decoder.proofs.images.Finality.{status_ended, fed_fault_stays, growths_stay}
use Rattle.sixel_decoder.proofs.images.Finality.{dcs_count_ended, dcs_fault_ended, dcs_fault_stays}
use Rattle.sixel_decoder.proofs.images.Finality.{dcs_growths_stay}
use Rattle.sixel_decoder.specs.declared.dcs_state.DcsState.TheVariants as states

-- nothing is rejected without a fault or a failed allocation
pub never_refused : (e : SixelError) (may : Bool) → may ≡ false → Faults e may None → ⊥
never_refused (InvalidDimensions w h) may not is = is
never_refused (BufferSizeMismatch w h) may not is = is
never_refused (InvalidData t) may not is = is
never_refused NoSixelData may not is = is
never_refused IntegerOverflow may not is = is
never_refused OutOfMemory may not is = false≢true (sym not ∙ is)

-- what holds at either answer of a test
pub MatchBool-from_each : (test : Bool) (P Q : Type 0) → (test ≡ true → P) → (test ≡ false → Q)
    → MatchBool test P Q
MatchBool-from_each true P Q held failed = held refl
MatchBool-from_each false P Q held failed = failed refl

-- ---- a payload

-- a reader that was not rejected has read bytes without a fault
pub read_sound : {C : Type 0} {canvas : Ghosts C}
    (parser : Option (PayloadParser C canvas)) (o : Origin) (terminator : Option ℕ) (bytes : List ℕ)
    → HasRead parser o terminator bytes → is_none parser ≡ false
    → fed_fault o.pixel_limit bytes ≡ None
read_sound None o terminator bytes is accepted = absurd cc
read_sound (Some parser) o terminator bytes is accepted =
    let stands : StandsAfter (is_some (first_terminator bytes)) o parser
    (history_of (front bytes)) =
    subst (λ (w : Option ℕ). StandsAfter (is_some w) o parser (history_of (front bytes)))
    (sym is.0) is.1 in
    sym (effective-fault o.pixel_limit (settled bytes))
    ∙ (shown_after (is_some (first_terminator bytes)) o parser (history_of (front bytes))
    stands).shows.faultless

-- all bytes are rejected with the error of a beginning
pub frame_refused : (e : SixelError) (limit : Limit) (fed left bytes : List ℕ) (n : ℕ)
    → fed ++ left ≡ bytes → Faults e (nat_lt n (growths (settled fed))) (fed_fault limit fed)
    → Faults e (nat_lt 0 (growths (settled bytes))) (fed_fault limit bytes)
frame_refused e limit fed left bytes n joined refused =
    let all : List ℕ = fed ++ left in
    subst (λ (w : List ℕ). Faults e (nat_lt 0 (growths (settled w))) (fed_fault limit w)) joined
    (Faults-along e _ (nat_lt 0 (growths (settled all))) (fed_fault limit fed) (fed_fault limit all)
    (λ may. grind (arith, nat_tests, growths_stay fed left))
    (fed_fault_stays limit fed left) refused)

-- ---- a DCS sequence

-- a reader that was not rejected has followed bytes without a fault
pub followed_sound : {C : Type 0}
    (state : DcsState C) (decoder : DecoderState) (ended : Option SixelDcsFeedStatus)
    (bytes : List ℕ)
    → HasFollowed state decoder ended bytes
    → is_failed state ≡ false → dcs_fault decoder.pixel_limit bytes ≡ None
followed_sound {C} states.Start decoder ended bytes is accepted = grind (arith, nat_tests, heading)
followed_sound {C} states.Escape decoder ended bytes is accepted = grind (arith, nat_tests, heading)
followed_sound {C} (states.Header header) decoder ended bytes is accepted =
    grind (arith, nat_tests, heading)
followed_sound {C} (states.Payload reader) decoder ended bytes is accepted =
    ap (stage_fault decoder.pixel_limit) is.reading ∙ is.faultless
followed_sound {C} states.Failed decoder ended bytes is accepted = absurd cc

-- at most ESC and the byte after it
end_count-fits : (t : ℕ) (rest : List ℕ) → end_count t rest ≤ length rest + 1
end_count-fits t [] = grind (arith, nat_tests)
end_count-fits t (byte ∷ rest) = grind (arith, nat_tests)

payload_count-fits : (payload : List ℕ) (o : Option ℕ) → first_terminator payload ≡ o
    → payload_count payload ≤ length payload
payload_count-fits payload None none = omega (arith, count_open payload none, count-fits payload)
payload_count-fits payload (Some t) some =
    grind (arith, nat_tests, drop-count, count_at, end_count-fits, length-drop)

counted_in : (bytes : List ℕ) (w : Stage) → stage bytes ≡ w → stage_count bytes w ≤ length bytes
counted_in bytes Heading is = omega arith
counted_in bytes (Failing f) is = omega arith
counted_in bytes (Reading s payload) is = grind (arith, nat_tests, payload_count-fits, reading_fits)

-- no more bytes are a string's own than there are
pub dcs_count-fits : (bytes : List ℕ) → dcs_count bytes ≤ length bytes
dcs_count-fits bytes = counted_in bytes (stage bytes) refl

waits : (status : SixelDcsFeedStatus) → has_ended status ≡ false → status ≡ NeedMoreData
waits NeedMoreData not = refl
waits Complete not = absurd cc
waits (Cancelled byte) not = absurd cc
waits (Interrupted byte) not = absurd cc

end_of_escape : (t : ℕ) → (t == 27) ≡ true → end_count t [] ≡ 1
end_of_escape t is = grind (arith, nat_tests)

-- all bytes are a payload's own while the string waits for more
waiting_count : (payload : List ℕ) (o : Option ℕ) → first_terminator payload ≡ o
    → payload_status payload ≡ NeedMoreData → payload_count payload ≡ length payload
waiting_count payload None none waits =
    omega (arith, count_open payload none, ap length (before_terminator-whole payload none))
waiting_count payload (Some t) some waits =
    let after =
    escape_waits t (after_terminator payload)
    (sym (status_at payload (after_terminator payload) t some refl) ∙ waits) in
    let follows = drop-count payload t some in
    omega (
      arith,
      count_at payload [] t some after.1,
      end_of_escape t after.0,
      follows.1,
      ap length (follows.0 ∙ after.1),
      length-drop (count payload + 1) payload,
    )

count_most_by : (bytes piece : List ℕ) (w : Stage) (ended : Bool) → stage bytes ≡ w
    → has_ended (dcs_status bytes) ≡ ended
    → dcs_count (bytes ++ piece) ≤ dcs_count bytes + length piece
count_most_by bytes piece w true is over = omega (arith, dcs_count_ended bytes piece over)
count_most_by bytes piece Heading false is not =
    grind (arith, nat_tests, dcs_count-fits, length-append)
count_most_by bytes piece (Failing f) false is not =
    omega (arith, ap (stage_count (bytes ++ piece)) (failing_stays bytes piece f is))
count_most_by bytes piece (Reading s payload) false is not =
    grind (arith, nat_tests, waits, waiting_count, reading_fits, dcs_count-fits, length-append)

-- a chunk adds at most its bytes
pub dcs_count-most : (bytes piece : List ℕ)
    → dcs_count (bytes ++ piece) ≤ dcs_count bytes + length piece
dcs_count-most bytes piece =
    count_most_by bytes piece (stage bytes) (has_ended (dcs_status bytes)) refl refl

-- what follows the end means nothing
pub same_string : (limit : Limit) (fed more : List ℕ) → has_ended (dcs_status fed) ≡ true
    → IsSameString limit fed (fed ++ more)
same_string limit fed more over =
    grind (arith, nat_tests, dcs_count_ended, status_ended, dcs_fault_ended)

-- all bytes are rejected with the error of a beginning
pub string_refused : (e : SixelError) (limit : Limit) (fed left bytes : List ℕ) (n : ℕ)
    → fed ++ left ≡ bytes → Faults e (nat_lt n (dcs_growths fed)) (dcs_fault limit fed)
    → Faults e (nat_lt 0 (dcs_growths bytes)) (dcs_fault limit bytes)
string_refused e limit fed left bytes n joined refused =
    let all : List ℕ = fed ++ left in
    subst (λ (w : List ℕ). Faults e (nat_lt 0 (dcs_growths w)) (dcs_fault limit w)) joined
    (Faults-along e _ (nat_lt 0 (dcs_growths all)) (dcs_fault limit fed) (dcs_fault limit all)
    (λ may. grind (arith, nat_tests, dcs_growths_stay fed left))
    (dcs_fault_stays limit fed left) refused)
