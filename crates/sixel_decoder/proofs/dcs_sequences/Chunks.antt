-- How a DCS sequence goes on in its payload, or up to where the payload begins.
use Rattle.std.proofs.Common.{◌≡◌, ℕ, ◌+◌, ◌-◌, ◌≤◌, Bool, true, false, cond, List, [], ◌∷◌, ◌++◌}
use Rattle.std.proofs.Common.{refl, ap, sym, ◌∙◌, subst, arith, Option, None, Ok, length, take}
use Rattle.std.proofs.{Common.{drop, append_assoc, length-append}, lemmas.Bool.Decides.nat_tests}
use Rattle.std.proofs.lemmas.List.{take-append-drop, length-take-le, take_all}
use Rattle.std.{proofs.lemmas.Result.err_from_is_err_and, specs.Prelude.{nat_lt, ◌==◌, IsTrue}}
use Rattle.sixel_base.specs.{Bytes.is_terminator, Dcs.{Introduced, Waiting, Absent, Entered}}
use Rattle.sixel_base.specs.Dcs.{introduced, Stage, Heading, Reading, stage_after, stage_by, stage}
use Rattle.sixel_base.specs.Dcs.{stage_status, stage_count, stage_fault, stage_growths}
use Rattle.sixel_base.specs.Dcs.{payload_count, dcs_count, dcs_fault, dcs_growths, ended_with}
use Rattle.sixel_base.specs.{Decoder.origin_of, Fault.{Faults, Malformed, BadHeader}, Header.Begun}
use Rattle.sixel_base.specs.{Header.{Faulty, headed_by, header_rest}, Limits.Limit}
use Rattle.sixel_base.specs.{Payload.{fed_fault, settled, growths}, Settings.Settings}
use Rattle.sixel_base.specs.{Stroke.Origin, declared.error.SixelError.SixelError}
use Rattle.sixel_base.specs.declared.state.DecoderState.{DecoderState}
use Rattle.sixel_base.specs.declared.status.SixelDcsFeedStatus.{SixelDcsFeedStatus}
use Rattle.sixel_base.specs.declared.status.SixelDcsFeedStatus.TheVariants.{NeedMoreData}
use Rattle.sixel_decoder.specs.{Session.Session, declared.dcs_state.DcsState.DcsState}
use Rattle.sixel_decoder.specs.inside.DcsState.{IsInPayload, HasFollowed, is_head, is_failed}
use Rattle.sixel_decoder.specs.inside.DcsState.{IsStageFault, GoesTo, Follows}
use Rattle.sixel_decoder.proofs.chunks.Joined.{before_terminator-whole}
use Rattle.sixel_decoder.proofs.{chunks.ParserSteps.Faults-along, dcs_sequences.Ends.count_open}
use Rattle.sixel_decoder.proofs.dcs_sequences.Terminators.{stage_reading}
use Rattle.sixel_decoder.specs.declared.dcs_state.DcsState.TheVariants as states

-- ---- in a payload

pub payload_follows : (C : Type 0) (reader reader' : Session) (decoder : DecoderState)
    (ended ended' : Option SixelDcsFeedStatus) (before piece : List ℕ)
    (consumed : ℕ) (status : SixelDcsFeedStatus) → IsInPayload reader decoder ended before
    → reader'.origin ≡ reader.origin → reader'.bytes ≡ reader.bytes ++ piece
    → reader'.is_refused ≡ false → fed_fault reader.origin.pixel_limit reader'.bytes ≡ None
    → GoesTo reader.bytes (reader.bytes ++ piece) (record { consumed = consumed; status = status })
    → ended' ≡ ended_with (reader.bytes ++ piece)
    → Follows {C = C} (Ok (record { consumed = consumed; status = status }))
    (states.Payload reader')
    decoder ended' before piece
payload_follows C reader reader' decoder ended ended' before piece consumed status is origin bytes
    accepted faultless goes ends =
    let settings : Settings = reader.origin.settings in
    let sound : fed_fault decoder.pixel_limit reader'.bytes ≡ None =
    ap (λ (o : Origin). fed_fault o.pixel_limit reader'.bytes) (sym is.start) ∙ faultless in
    let payload : List ℕ = reader.bytes in
    let reads : stage (before ++ piece) ≡ Reading settings (payload ++ piece) =
    stage_reading before piece settings payload is.reading in
    let was : dcs_count before ≡ (length before - length payload) + payload_count payload =
    ap (stage_count before) is.reading in
    let now : dcs_count (before ++ piece)
    ≡ (length (before ++ piece) - length (payload ++ piece)) + payload_count (payload ++ piece) =
    ap (stage_count (before ++ piece)) reads in (
      omega (arith, was, now, length-append before piece, length-append payload piece, goes.0),
      goes.1 ∙ sym (ap stage_status reads),
      refl,
      record {
        reading =
            reads
            ∙ (ap (λ (o : Origin). Reading o.settings (payload ++ piece)) (sym origin)
            ∙ ap (Reading reader'.origin.settings) (sym bytes));
        start =
            origin ∙ (is.start ∙ ap (λ (o : Origin). origin_of decoder o.settings) (sym origin));
        accepted = accepted;
        faultless = sound;
        ending = ends ∙ ap ended_with (sym bytes);
      },
      ap (stage_fault decoder.pixel_limit) reads
          ∙ (ap (fed_fault decoder.pixel_limit) (sym bytes) ∙ sound),
    )

pub payload_refuses : (e : SixelError) (reader : Session) (decoder : DecoderState)
    (ended : Option SixelDcsFeedStatus) (before piece : List ℕ)
    → IsInPayload reader decoder ended before
    → Faults e (nat_lt (growths (settled reader.bytes)) (growths (settled (reader.bytes ++ piece))))
    (fed_fault reader.origin.pixel_limit (reader.bytes ++ piece))
    → Faults e (nat_lt (dcs_growths before) (dcs_growths (before ++ piece)))
    (dcs_fault decoder.pixel_limit (before ++ piece))
payload_refuses e reader decoder ended before piece is refused =
    let reads : stage (before ++ piece) ≡ Reading reader.origin.settings (reader.bytes ++ piece) =
    stage_reading before piece reader.origin.settings reader.bytes is.reading in
    let here : Faults e
    (nat_lt (growths (settled reader.bytes)) (growths (settled (reader.bytes ++ piece))))
    (fed_fault decoder.pixel_limit (reader.bytes ++ piece)) =
    subst (λ (o : Origin).
    Faults e (nat_lt (growths (settled reader.bytes)) (growths (settled (reader.bytes ++ piece))))
    (fed_fault o.pixel_limit (reader.bytes ++ piece)))
    is.start refused in
    subst (λ (w : Stage).
    Faults e (nat_lt (stage_growths w) (dcs_growths (before ++ piece)))
    (dcs_fault decoder.pixel_limit (before ++ piece)))
    (sym is.reading)
    (subst (λ (w : Stage).
    Faults e (nat_lt (growths (settled reader.bytes)) (stage_growths w))
    (stage_fault decoder.pixel_limit w))
    (sym reads) here)

-- ---- before a payload

-- the payload has not begun, nor ended
pub heading : {C : Type 0}
    (state : DcsState C) (decoder : DecoderState) (ended : Option SixelDcsFeedStatus)
    (bytes : List ℕ)
    → is_head state ≡ true
    → HasFollowed state decoder ended bytes → (stage bytes ≡ Heading) × (ended ≡ None)
heading state decoder ended bytes head is = grind (arith, nat_tests)

pub head_fine : {C : Type 0} (state : DcsState C) → is_head state ≡ true → is_failed state ≡ false
head_fine state head = grind (arith, nat_tests)

pub head_or_payload : {C : Type 0} (state : DcsState C) → is_failed state ≡ false
    → ((reader : Session) → state ≡ states.Payload reader → ⊥) → is_head state ≡ true
head_or_payload state fine other = grind (arith, nat_tests)

-- what an error names before a payload is what is wrong with the bytes
pub stage_refuses : (e : SixelError) (may : Bool) (limit : Limit) (s : Stage) → IsStageFault e s
    → Faults e may (stage_fault limit s)
stage_refuses e may limit s is = grind (arith, nat_tests)

-- all of the chunk stands before the payload
pub head_follows : {C : Type 0} (state : DcsState C) (decoder : DecoderState)
    (ended : Option SixelDcsFeedStatus)
    (before piece : List ℕ) (start : ℕ)
    → stage before ≡ Heading → is_failed state ≡ false → is_head state ≡ true → start ≡ length piece
    → HasFollowed state decoder ended (before ++ take start piece)
    → Follows (Ok (record { consumed = length piece; status = NeedMoreData })) state decoder ended
    before piece
head_follows state decoder ended before piece start from fine head all is =
    grind (arith, nat_tests, take_all, heading, length-append)

-- ---- the payload begins within a chunk

header_rest-fits : (bytes : List ℕ) → length (header_rest bytes) ≤ length bytes
header_rest-fits [] = omega arith
header_rest-fits (byte ∷ bytes) = grind (arith, nat_tests, header_rest-fits bytes)

begun_fits : (rest h : List ℕ) (s : Settings) (payload : List ℕ) → header_rest rest ≡ h
    → stage_after rest (headed_by h) ≡ Reading s payload → length payload ≤ length rest
begun_fits rest [] s payload ends is = absurd cc
begun_fits rest (byte ∷ tail) s payload ends is =
    (elim (byte == 113) as
    (λ q.
    stage_after rest
    (cond q (Begun tail) (cond (is_terminator byte) (Faulty Malformed) (Faulty BadHeader)))
    ≡ Reading s payload → length payload ≤ length rest) [
      | true ↦ λ e.
          let same : tail ≡ payload = cc in
          omega (arith, ap length same, ap length ends, header_rest-fits rest)
      | false ↦ elim (is_terminator byte) as
          (λ t.
          stage_after rest (cond t (Faulty Malformed) (Faulty BadHeader)) ≡ Reading s payload
          → length payload ≤ length rest) [
            | true ↦ λ e. absurd cc
            | false ↦ λ e. absurd cc
          ]
    ]) is

introduced_fits : (bytes rest : List ℕ) → introduced bytes ≡ Entered rest
    → length rest ≤ length bytes
introduced_fits bytes rest is = grind (arith, nat_tests)

pub reading_fits : (bytes : List ℕ) (i : Introduced) (s : Settings) (payload : List ℕ)
    → introduced bytes ≡ i → stage_by i ≡ Reading s payload → length payload ≤ length bytes
reading_fits bytes Waiting s payload e is = absurd cc
reading_fits bytes Absent s payload e is = absurd cc
reading_fits bytes (Entered rest) s payload e is =
    omega
    (arith, introduced_fits bytes rest e, begun_fits rest (header_rest rest) s payload refl is)

-- no terminator came yet, so that all bytes are the string's own
pub all_counted : (reader : Session) (decoder : DecoderState) (bytes : List ℕ)
    → IsInPayload reader decoder None bytes → dcs_count bytes ≡ length bytes
all_counted reader decoder bytes is =
    grind (arith, nat_tests, reading_fits, count_open, before_terminator-whole)

pub entered_follows : {C : Type 0} (state : DcsState C) (decoder : DecoderState)
    (ended : Option SixelDcsFeedStatus) (before piece : List ℕ) (start consumed : ℕ)
    (status : SixelDcsFeedStatus)
    → start ≤ length piece → stage before ≡ Heading
    → dcs_count (before ++ take start piece) ≡ length (before ++ take start piece)
    → Follows (Ok (record { consumed = consumed; status = status })) state decoder ended
    (before ++ take start piece) (drop start piece)
    → Follows (Ok (record { consumed = start + consumed; status = status })) state decoder ended
    before piece
entered_follows state decoder ended before piece start consumed status within from counted follows =
    grind (arith, nat_tests, append_assoc, take-append-drop, length-append, length-take-le)

grows : (a b n : ℕ) → a ≡ 0 → IsTrue (nat_lt b n) → IsTrue (nat_lt a n)
grows a b n none may = grind (arith, nat_tests)

pub entered_refuses : (e : SixelError) (limit : Limit) (before piece : List ℕ) (start : ℕ)
    → stage before ≡ Heading
    → Faults e (nat_lt (dcs_growths (before ++ take start piece))
    (dcs_growths ((before ++ take start piece) ++ drop start piece)))
    (dcs_fault limit ((before ++ take start piece) ++ drop start piece))
    → Faults e (nat_lt (dcs_growths before) (dcs_growths (before ++ piece)))
    (dcs_fault limit (before ++ piece))
entered_refuses e limit before piece start from refused =
    grind (arith, nat_tests, append_assoc, take-append-drop, Faults-along, grows)

-- what reading the beginning of a chunk needs
pub ruleset beginnings = (
  nat_tests,
  err_from_is_err_and,
  head_fine,
  heading,
  head_or_payload,
  head_follows,
  stage_refuses,
)
