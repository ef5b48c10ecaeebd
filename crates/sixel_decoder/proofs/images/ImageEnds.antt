-- Which bytes belong to an image as more bytes come, and that they are those of its contract where
-- it has no fault.
use Rattle.std.proofs.Common.{◌≡◌, ℕ, ◌+◌, ◌≤◌, true, false, List, [], ◌∷◌, ◌++◌, refl, ap, sym}
use Rattle.std.proofs.Common.{◌∙◌, arith, Some, None, length, drop, length-append, length-drop}
use Rattle.std.proofs.lemmas.Bool.Decides.{nat_tests}
use Rattle.std.specs.Prelude.{nat_lt, Option}
use Rattle.sixel_base.specs.{Bytes.{count, first_terminator}, Dcs.{Introduced, Waiting, Absent}}
use Rattle.sixel_base.specs.Dcs.{Entered, introduced, Stage, Heading, Failing, Reading, stage_after}
use Rattle.sixel_base.specs.Dcs.{stage_by, stage, stage_count, stage_status, stage_fault}
use Rattle.sixel_base.specs.Dcs.{after_terminator, ended_with, payload_count, payload_status}
use Rattle.sixel_base.specs.Dcs.{dcs_count, dcs_status, dcs_fault, dcs_growths, escape_count}
use Rattle.sixel_base.specs.{Dcs.escape_status, Fault.Faults, Header.{headed_by, header_rest}}
use Rattle.sixel_base.specs.{Limits.Limit, declared.error.SixelError.SixelError}
use Rattle.sixel_base.specs.declared.state.DecoderState.{DecoderState}
use Rattle.sixel_base.specs.declared.status.SixelDcsFeedResult.{SixelDcsFeedResult}
use Rattle.sixel_base.specs.declared.status.SixelDcsFeedStatus.{SixelDcsFeedStatus}
use Rattle.sixel_base.specs.declared.status.SixelDcsFeedStatus.TheVariants.{NeedMoreData}
use Rattle.sixel_decoder.specs.ImageEnds.{Extends, IsEnd, inside, sequence_count, sequence_status}
use Rattle.sixel_decoder.specs.{Reception.OfString, declared.dcs_state.DcsState.DcsState}
use Rattle.sixel_decoder.specs.{declared.received.Status.TheVariants.Dcs, inside.DcsState.GoesTo}
use Rattle.sixel_decoder.specs.inside.DcsState.{HasFollowed, is_begun, is_failed, is_head}
use Rattle.sixel_decoder.proofs.chunks.Joined.{count-append, first_terminator-append}
use Rattle.sixel_decoder.proofs.{chunks.Joined.first_terminator-ended, dcs_sequences.Chunks.heading}
use Rattle.sixel_decoder.proofs.dcs_sequences.{Chunks.reading_fits, Ends.{ended_at, goes_open}}
use Rattle.sixel_decoder.proofs.dcs_sequences.Ends.{terminator_same}
use Rattle.sixel_decoder.proofs.dcs_sequences.Ends.{goes_later, some_by}
use Rattle.sixel_decoder.proofs.{images.Finality.count_ended, chunks.Sessions.dcs_count-most}
use Rattle.sixel_decoder.specs.declared.dcs_state.DcsState.TheVariants as states

-- ---- a DCS sequence goes on

-- no terminator had come before the chunk
pub first_in : (before chunk : List ℕ) (consumed : ℕ) (first : Option ℕ)
    → None ≡ ended_with before → consumed ≡ count chunk → first_terminator chunk ≡ first
    → (first_terminator (before ++ chunk) ≡ first)
    × (count before + consumed ≡ count (before ++ chunk))
first_in before chunk consumed first ended counted is =
    grind (arith, nat_tests, first_terminator-append, count-append)

-- one had
pub goes_past : (before chunk : List ℕ) (consumed : ℕ) (was status : SixelDcsFeedStatus)
    → Some was ≡ ended_with before
    → (was ≡ NeedMoreData → (consumed + 1 ≡ escape_count chunk) × (status ≡ escape_status chunk))
    → ((was ≡ NeedMoreData → ⊥) → (consumed ≡ 0) × (status ≡ was))
    → GoesTo before (before ++ chunk) (record { consumed = consumed; status = status })
    × (Some status ≡ ended_with (before ++ chunk))
goes_past before chunk consumed was status ended waiting over =
    let at = some_by (first_terminator before) (after_terminator before) was (sym ended) in
    let first = first_terminator-ended before chunk at.0 at.1 in
    let goes = goes_later before chunk at.0 0 consumed was status ended first
    (omega (arith, count_ended before chunk at.0 at.1)) waiting over in
    ((omega (arith, goes.0), goes.1), ap Some goes.1 ∙ sym (ended_at (before ++ chunk) at.0 first))

-- a payload is that of a sequence with an empty header, so a chunk adds at most its bytes
payload_count-most : (payload chunk : List ℕ)
    → payload_count (payload ++ chunk) ≤ payload_count payload + length chunk
payload_count-most payload chunk =
    let header : List ℕ = 0x90 ∷ 113 ∷ payload in
    omega (arith, dcs_count-most header chunk)

some_byte : (byte : ℕ) (bytes : List ℕ) → nat_lt 0 (length (byte ∷ bytes)) ≡ true
some_byte byte bytes = grind (arith, nat_tests)

inside_fits : (bytes : List ℕ) → length (inside bytes) ≤ length bytes
inside_fits bytes = grind (arith, nat_tests)

inside-append : (bytes chunk : List ℕ) (start : ℕ) → (nat_lt 0 (length bytes) ≡ true → start ≡ 0)
    → (nat_lt 0 (length bytes) ≡ false → inside chunk ≡ drop start chunk)
    → inside (bytes ++ chunk) ≡ inside bytes ++ drop start chunk
inside-append bytes chunk start later first = grind (arith, nat_tests)

-- the bytes after the first one of the introducer go on
pub extends : (bytes chunk : List ℕ) (start : ℕ) (fed : SixelDcsFeedResult)
    (ended : Option SixelDcsFeedStatus)
    → start ≤ length chunk → (nat_lt 0 (length bytes) ≡ true → start ≡ 0)
    → (nat_lt 0 (length bytes) ≡ false → inside chunk ≡ drop start chunk)
    → GoesTo (inside bytes) (inside bytes ++ drop start chunk) fed
    → ended ≡ ended_with (inside bytes ++ drop start chunk)
    → (ended ≡ ended_with (inside (bytes ++ chunk)))
    × Extends OfString bytes (bytes ++ chunk) chunk
    (record { consumed = start + fed.consumed; status = Dcs fed.status })
extends bytes chunk start fed ended within later first goes is = grind (
  arith,
  nat_tests,
  inside-append,
  length-append,
  length-drop,
  inside_fits,
  payload_count-most,
)

-- ---- without a fault they are the bytes of the sequence

-- the bytes are a part without a terminator, and these bytes
record Behind (bytes rest : List ℕ) : Type 0 where
  ended : ended_with bytes ≡ ended_with rest
  status : payload_status bytes ≡ payload_status rest
  counted : payload_count bytes + length rest ≡ payload_count rest + length bytes

behind-refl : (bytes : List ℕ) → Behind bytes bytes
behind-refl bytes = record { ended = refl; status = refl; counted = refl }

behind-trans : (a b c : List ℕ) → Behind a b → Behind b c → Behind a c
behind-trans a b c first second = grind (arith, nat_tests)

behind_header : (bytes : List ℕ) → Behind bytes (header_rest bytes)
behind_header [] = behind-refl []
behind_header (byte ∷ bytes) = grind (arith, nat_tests, behind_header bytes)

behind_introducer : (bytes rest : List ℕ) → introduced bytes ≡ Entered rest
    → Behind (inside bytes) rest
behind_introducer bytes rest is = grind (arith, nat_tests)

-- the payload of a sequence without a fault, or no byte before it
abbrev payload_in : Stage → List ℕ
payload_in Heading = []
payload_in (Failing fault) = []
payload_in (Reading settings payload) = payload

behind_command : (limit : Limit) (rest h : List ℕ)
    → stage_fault limit (stage_after rest (headed_by h)) ≡ None
    → Behind h (payload_in (stage_after rest (headed_by h)))
behind_command limit rest h sound = grind (arith, nat_tests)

behind_waiting : (bytes : List ℕ) → introduced bytes ≡ Waiting → Behind (inside bytes) []
behind_waiting bytes is = grind (arith, nat_tests)

behind_stage : (limit : Limit) (bytes : List ℕ) (i : Introduced) → introduced bytes ≡ i
    → stage_fault limit (stage_by i) ≡ None → Behind (inside bytes) (payload_in (stage_by i))
behind_stage limit bytes Waiting is sound = behind_waiting bytes is
behind_stage limit bytes Absent is sound = absurd cc
behind_stage limit bytes (Entered rest) is sound =
    behind-trans (inside bytes) rest _ (behind_introducer bytes rest is)
    (behind-trans rest (header_rest rest) _ (behind_header rest)
    (behind_command limit rest (header_rest rest) sound))

same_in : (limit : Limit) (bytes : List ℕ) (w : Stage) → stage bytes ≡ w
    → stage_fault limit w ≡ None → Behind (inside bytes) (payload_in w)
    → (sequence_count bytes ≡ stage_count bytes w) × (sequence_status bytes ≡ stage_status w)
same_in limit bytes w is sound behind = grind (arith, inside_fits, reading_fits)

-- a sequence without a fault has the bytes and the status of a session
pub accepted_same : (limit : Limit) (bytes : List ℕ) → dcs_fault limit bytes ≡ None
    → (sequence_count bytes ≡ dcs_count bytes) × (sequence_status bytes ≡ dcs_status bytes)
accepted_same limit bytes sound =
    same_in limit bytes (stage bytes) refl sound
    (behind_stage limit bytes (introduced bytes) refl sound)

-- ---- what a parser stores

heads_end : {C : Type 0} (state : DcsState C) (decoder : DecoderState)
    (ended : Option SixelDcsFeedStatus) (bytes : List ℕ) → is_head state ≡ true
    → HasFollowed state decoder ended bytes → ended ≡ ended_with (inside bytes)
heads_end state decoder ended bytes head is =
    let at = heading state decoder ended bytes head is in
    let sound : dcs_fault decoder.pixel_limit bytes ≡ None =
    ap (stage_fault decoder.pixel_limit) at.0 in
    let behind = behind_stage decoder.pixel_limit bytes (introduced bytes) refl sound in
    at.1 ∙ (ap (λ (w : Stage). ended_with (payload_in w)) (sym at.0) ∙ sym behind.ended)

pub end_of : {C : Type 0} (state : DcsState C) (decoder : DecoderState)
    (ended : Option SixelDcsFeedStatus) (bytes : List ℕ) → HasFollowed state decoder ended bytes
    → IsEnd (is_begun state) ended bytes
end_of {C} states.Start decoder ended bytes is = grind (arith, nat_tests, heads_end)
end_of {C} states.Escape decoder ended bytes is = grind (arith, nat_tests, heads_end)
end_of {C} (states.Header header) decoder ended bytes is = record {
  begun = entered_some bytes is.0.rest is.0.entered;
  ended = heads_end {C = C} (states.Header header) decoder ended bytes refl is;
}
  where
    entered_some : (bytes rest : List ℕ) → introduced bytes ≡ Entered rest
        → true ≡ nat_lt 0 (length bytes)
    entered_some [] rest is = absurd cc
    entered_some (byte ∷ bytes) rest is = sym (some_byte byte bytes)
end_of {C} (states.Payload reader) decoder ended bytes is =
    let sound : dcs_fault decoder.pixel_limit bytes ≡ None =
    ap (stage_fault decoder.pixel_limit) is.reading ∙ is.faultless in
    let behind = behind_stage decoder.pixel_limit bytes (introduced bytes) refl sound in
    record {
      begun = reading_some bytes is.reading;
      ended =
          is.ending
          ∙ (ap (λ (w : Stage). ended_with (payload_in w)) (sym is.reading) ∙ sym behind.ended);
    }
  where
    reading_some : (bytes : List ℕ) → stage bytes ≡ Reading reader.origin.settings reader.bytes
        → true ≡ nat_lt 0 (length bytes)
    reading_some [] is = absurd cc
    reading_some (byte ∷ bytes) is = sym (some_byte byte bytes)
end_of {C} states.Failed decoder ended bytes is = is

-- a sequence that is rejected has a byte
pub refused_begun : {C : Type 0} (e : SixelError) (state : DcsState C) (decoder : DecoderState)
    (ended : Option SixelDcsFeedStatus) (bytes chunk : List ℕ)
    → HasFollowed state decoder ended bytes
    → (is_failed state ≡ false
    → Faults e (nat_lt (dcs_growths bytes) (dcs_growths (bytes ++ chunk)))
    (dcs_fault decoder.pixel_limit (bytes ++ chunk)))
    → true ≡ nat_lt 0 (length (bytes ++ chunk))
refused_begun e state decoder ended bytes chunk is told = grind (arith, nat_tests)

-- what counting bytes inside a sequence needs
pub ruleset inside_ends = (nat_tests, terminator_same, first_in, goes_open, ended_at)
