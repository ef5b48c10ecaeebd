-- What the state of a DCS reader says of the bytes so far, and how it continues with a chunk.
-- From the meaning of DCS sequences: each state is one place where a sequence can be.
use Rattle.std.specs.Prelude.{◌≡◌, ◌+◌, ◌≤◌, nat_lt, Bool, true, false, List, [], ◌∷◌, ◌++◌, ℕ}
use Rattle.std.specs.Prelude.{Option, None, Result, MatchResult, take, length}
use Rattle.sixel_base.specs.declared.{error.SixelError.SixelError, state.DecoderState.DecoderState}
use Rattle.sixel_base.specs.declared.status.SixelDcsFeedResult.{SixelDcsFeedResult}
use Rattle.sixel_base.specs.declared.status.SixelDcsFeedStatus.{SixelDcsFeedStatus}
use Rattle.sixel_base.specs.Dcs.{Entered, introduced, Stage, Heading, Failing, Reading, stage}
use Rattle.sixel_base.specs.Dcs.{payload_status, payload_count, dcs_status, dcs_count, dcs_fault}
use Rattle.sixel_base.specs.{Dcs.{dcs_growths, ended_with}, Decoder.origin_of, Fault.IsFault}
use Rattle.sixel_base.specs.{Fault.Faults, Header.{header_rest, header_text}, Payload.fed_fault}
use Rattle.sixel_base.specs.inside.Parameters.{Keeps}
use Rattle.sixel_decoder.specs.declared.dcs_state.DcsState.{DcsState}
use Rattle.sixel_decoder.specs.{ImageEnds.IsEnd, Session.Session}
use Rattle.sixel_decoder.specs.declared.dcs_state.DcsState.TheVariants as states
use Rattle.sixel_decoder.specs.declared.header.Header as headers

-- the header continues, and its parameters are those of its text so far
pub record IsInHeader (header : headers.Header) (bytes : List ℕ) : Type 0 where
  pub rest : List ℕ
  pub entered : introduced bytes ≡ Entered rest
  pub going : header_rest rest ≡ []
  pub keeps : Keeps header.parameters (header_text rest)

-- the payload is that of the bytes, and how it ended is known
pub record IsInPayload (reader : Session) (decoder : DecoderState)
    (ended : Option SixelDcsFeedStatus) (bytes : List ℕ) : Type 0 where
  pub reading : stage bytes ≡ Reading reader.origin.settings reader.bytes
  pub start : reader.origin ≡ origin_of decoder reader.origin.settings
  pub accepted : reader.is_refused ≡ false
  pub faultless : fed_fault decoder.pixel_limit reader.bytes ≡ None
  pub ending : ended ≡ ended_with reader.bytes

abbrev pub HasFollowed : {C : Type 0} → DcsState C → DecoderState → Option SixelDcsFeedStatus
    → List ℕ → Type 0
HasFollowed states.Start decoder ended bytes = (bytes ≡ []) × (ended ≡ None)
HasFollowed states.Escape decoder ended bytes = (bytes ≡ 27 ∷ []) × (ended ≡ None)
HasFollowed (states.Header header) decoder ended bytes = IsInHeader header bytes × (ended ≡ None)
HasFollowed (states.Payload reader) decoder ended bytes = IsInPayload reader decoder ended bytes
HasFollowed states.Failed decoder ended bytes = IsEnd true ended bytes

-- the payload has not begun
abbrev pub is_head : {C : Type 0} → DcsState C → Bool
is_head states.Start = true
is_head states.Escape = true
is_head (states.Header header) = true
is_head (states.Payload reader) = false
is_head states.Failed = false

-- a byte was read
abbrev pub is_begun : {C : Type 0} → DcsState C → Bool
is_begun states.Start = false
is_begun _ = true

abbrev pub is_failed : {C : Type 0} → DcsState C → Bool
is_failed states.Failed = true
is_failed _ = false

-- how many rows from the top it has released
abbrev pub released_of : {C : Type 0} → DcsState C → ℕ
released_of (states.Payload reader) = reader.released
released_of _ = 0

-- the error names what is wrong before a payload
abbrev pub IsStageFault : SixelError → Stage → Type 0
IsStageFault error Heading = ⊥
IsStageFault error (Failing fault) = IsFault error fault
IsStageFault error (Reading settings payload) = ⊥

-- one more byte was read, or is rejected
abbrev pub StepsInto : {A C : Type 0} → Result A SixelError → DcsState C → DecoderState
    → Option SixelDcsFeedStatus → List ℕ → Type 0
StepsInto result state decoder ended bytes =
    MatchResult result
    (λ _. (is_failed state ≡ false) × HasFollowed state decoder ended bytes)
    (λ error. IsStageFault error (stage bytes))

-- The beginning of the chunk was read, all of it if the payload has not begun; or the chunk is
-- rejected.
abbrev pub Heads : {C : Type 0} → Result ℕ SixelError → DcsState C → DecoderState
    → Option SixelDcsFeedStatus
    → List ℕ → List ℕ → Type 0
Heads result state decoder ended before piece =
    MatchResult result
    (λ count. (count ≤ length piece) × (is_failed state ≡ false)
    × HasFollowed state decoder ended (before ++ take count piece)
    × (is_head state ≡ true → count ≡ length piece))
    (λ error. IsStageFault error (stage (before ++ piece)))

-- The payload continues to these bytes: `fed` counts the further ones of the sequence, and has its
-- status.
abbrev pub GoesTo : List ℕ → List ℕ → SixelDcsFeedResult → Type 0
GoesTo payload payload' fed =
    (payload_count payload + fed.consumed ≡ payload_count payload')
    × (fed.status ≡ payload_status payload')

-- The chunk was read as far as the sequence goes, or is rejected by the fault of the bytes.
abbrev pub Follows : {C : Type 0} → Result SixelDcsFeedResult SixelError → DcsState C → DecoderState
    → Option SixelDcsFeedStatus → List ℕ → List ℕ → Type 0
Follows result state decoder ended before piece =
    MatchResult result
    (λ fed. (dcs_count before + fed.consumed ≡ dcs_count (before ++ piece))
    × (fed.status ≡ dcs_status (before ++ piece))
    × (is_failed state ≡ false) × HasFollowed state decoder ended (before ++ piece)
    × (dcs_fault decoder.pixel_limit (before ++ piece) ≡ None))
    (λ error.
    Faults error (nat_lt (dcs_growths before) (dcs_growths (before ++ piece)))
    (dcs_fault decoder.pixel_limit (before ++ piece)))
