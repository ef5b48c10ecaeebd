-- The meaning of bytes that are fed to a DCS session: DCS as one byte or as ESC and `P`, a header,
-- and after its `q` a payload. The payload ends at the string terminator, as one byte or as ESC and
-- `\`. CAN or SUB cancels it. Another byte after ESC interrupts it, as another C1 control does,
-- which is left to the caller. From DEC's device control strings.
use Rattle.std.specs.Prelude.{ℕ, ◌≡◌, ◌+◌, ◌-◌, ◌==◌, Bool, true, false, ◌&&◌, ◌||◌, if◌then◌else◌}
use Rattle.std.specs.Prelude.{List, [], ◌∷◌, length, Option, Some, None}
use Rattle.sixel_base.specs.{Fault.{Fault, NoIntroducer, Incomplete}, Bytes.{is_terminator, count}}
use Rattle.sixel_base.specs.{Bytes.first_terminator, Limits.Limit, Settings.Settings, Payload.Image}
use Rattle.sixel_base.specs.Payload.{fed_fault, settled, growths, payload_image, payload_registers}
use Rattle.sixel_base.specs.{PaintedArea.{payload_painted_area, payload_size}, Decoder.origin_of}
use Rattle.sixel_base.specs.Header.{Headed, Open, Begun, Faulty, headed, header_text, settings_of}
use Rattle.sixel_base.specs.declared.state.DecoderState.{DecoderState}
use Rattle.sixel_base.specs.declared.status.SixelDcsFeedStatus.{SixelDcsFeedStatus}
use Rattle.sixel_base.specs.declared.status.SixelDcsFeedStatus.TheVariants.{NeedMoreData, Complete}
use Rattle.sixel_base.specs.declared.status.SixelDcsFeedStatus.TheVariants.{Cancelled, Interrupted}

-- whether the introducer came: not yet, never, or these bytes follow it
pub data Introduced : Type 0 where
  Waiting : Introduced
  Absent : Introduced
  Entered : List ℕ → Introduced

abbrev pub escaped : List ℕ → Introduced
escaped [] = Waiting
escaped (byte ∷ bytes) = if byte == 80 then Entered bytes else Absent

abbrev pub introduced : List ℕ → Introduced
introduced [] = Waiting
introduced (byte ∷ bytes) =
    if byte == 0x90 then Entered bytes else if byte == 27 then escaped bytes else Absent

-- the stage of a DCS sequence: before its payload, rejected, or in a payload of these bytes
pub data Stage : Type 0 where
  Heading : Stage
  Failing : Fault → Stage
  Reading : Settings → List ℕ → Stage

abbrev pub stage_after : List ℕ → Headed → Stage
stage_after rest Open = Heading
stage_after rest (Begun payload) = Reading (settings_of (header_text rest)) payload
stage_after rest (Faulty fault) = Failing fault

abbrev pub stage_by : Introduced → Stage
stage_by Waiting = Heading
stage_by Absent = Failing NoIntroducer
stage_by (Entered rest) = stage_after rest (headed rest)

abbrev pub stage : List ℕ → Stage
stage bytes = stage_by (introduced bytes)

-- what follows the first terminator
abbrev pub after_terminator : List ℕ → List ℕ
after_terminator [] = []
after_terminator (byte ∷ bytes) = if is_terminator byte then bytes else after_terminator bytes

-- ESC ends a payload at once. A `\` after it completes the DCS sequence. Any other byte interrupts
-- the sequence, and does not belong to it.
abbrev pub escape_status : List ℕ → SixelDcsFeedStatus
escape_status [] = NeedMoreData
escape_status (byte ∷ rest) = if byte == 92 then Complete else Interrupted 27

abbrev pub escape_count : List ℕ → ℕ
escape_count [] = 1
escape_count (byte ∷ rest) = if byte == 92 then 2 else 1

-- how a DCS sequence ends at a terminator with these bytes after it
abbrev pub end_status : ℕ → List ℕ → SixelDcsFeedStatus
end_status terminator rest =
    if terminator == 0x9c then Complete
    else if terminator == 0x18 || terminator == 0x1a then Cancelled terminator
    else if terminator == 27 then escape_status rest
    else Interrupted terminator

-- how many bytes from the terminator on belong to the sequence
abbrev pub end_count : ℕ → List ℕ → ℕ
end_count terminator rest =
    if terminator == 0x9c || (terminator == 0x18 || terminator == 0x1a) then 1
    else if terminator == 27 then escape_count rest
    else 0

abbrev pub payload_status_by : Option ℕ → List ℕ → SixelDcsFeedStatus
payload_status_by None rest = NeedMoreData
payload_status_by (Some terminator) rest = end_status terminator rest

abbrev pub payload_count_by : Option ℕ → List ℕ → ℕ
payload_count_by None rest = 0
payload_count_by (Some terminator) rest = end_count terminator rest

-- the status of the sequence, by its payload
abbrev pub payload_status : List ℕ → SixelDcsFeedStatus
payload_status payload = payload_status_by (first_terminator payload) (after_terminator payload)

-- how many bytes after the `q` belong to it
abbrev pub payload_count : List ℕ → ℕ
payload_count payload =
    count payload + payload_count_by (first_terminator payload) (after_terminator payload)

abbrev pub stage_status : Stage → SixelDcsFeedStatus
stage_status Heading = NeedMoreData
stage_status (Failing fault) = NeedMoreData
stage_status (Reading settings payload) = payload_status payload

abbrev pub stage_count : List ℕ → Stage → ℕ
stage_count bytes Heading = length bytes
stage_count bytes (Failing fault) = 0
stage_count bytes (Reading settings payload) =
    (length bytes - length payload) + payload_count payload

abbrev pub stage_fault : Limit → Stage → Option Fault
stage_fault limit Heading = None
stage_fault limit (Failing fault) = Some fault
stage_fault limit (Reading settings payload) = fed_fault limit payload

-- the status of the bytes, how many of them belong to the sequence, and their fault
abbrev pub dcs_status : List ℕ → SixelDcsFeedStatus
dcs_status bytes = stage_status (stage bytes)

abbrev pub dcs_count : List ℕ → ℕ
dcs_count bytes = stage_count bytes (stage bytes)

abbrev pub dcs_fault : Limit → List ℕ → Option Fault
dcs_fault limit bytes = stage_fault limit (stage bytes)

-- bytes that mean the same DCS sequence as these: the same count, status and fault
pub record IsSameString (limit : Limit) (bytes other : List ℕ) : Type 0 where
  pub count : dcs_count other ≡ dcs_count bytes
  pub status : dcs_status other ≡ dcs_status bytes
  pub fault : dcs_fault limit other ≡ dcs_fault limit bytes

-- how many closed sixels and raster attributes its payload has
abbrev pub stage_growths : Stage → ℕ
stage_growths Heading = 0
stage_growths (Failing fault) = 0
stage_growths (Reading settings payload) = growths (settled payload)

abbrev pub dcs_growths : List ℕ → ℕ
dcs_growths bytes = stage_growths (stage bytes)

-- how far the closed sixels of its payload reach
abbrev pub stage_painted_area : Limit → Stage → ℕ
stage_painted_area limit Heading = 0
stage_painted_area limit (Failing fault) = 0
stage_painted_area limit (Reading settings payload) = payload_painted_area limit payload

-- whether its header is read and its payload has begun
abbrev pub stage_in_payload : Stage → Bool
stage_in_payload Heading = false
stage_in_payload (Failing fault) = false
stage_in_payload (Reading settings payload) = true

abbrev pub dcs_in_payload : List ℕ → Bool
dcs_in_payload bytes = stage_in_payload (stage bytes)

-- the width and the height that its picture has so far, once the payload has begun
abbrev pub stage_size : Limit → Stage → Option (ℕ × ℕ)
stage_size limit Heading = None
stage_size limit (Failing fault) = None
stage_size limit (Reading settings payload) = Some (payload_size limit payload)

-- how a DCS sequence has ended, once a terminator of its payload was read
abbrev pub ended_by : Option ℕ → List ℕ → Option SixelDcsFeedStatus
ended_by None rest = None
ended_by (Some terminator) rest = Some (end_status terminator rest)

abbrev pub ended_with : List ℕ → Option SixelDcsFeedStatus
ended_with payload = ended_by (first_terminator payload) (after_terminator payload)

-- whether a DCS sequence of this status has ended
abbrev pub has_ended : SixelDcsFeedStatus → Bool
has_ended NeedMoreData = false
has_ended status = true

abbrev pub has_come : Option SixelDcsFeedStatus → Bool
has_come None = false
has_come (Some status) = has_ended status

-- whether a DCS sequence that is finished has an image: it has ended, or it is lenient and its
-- payload has begun
abbrev pub can_finish : Limit → List ℕ → Bool
can_finish limit bytes =
    (limit.lenient && dcs_in_payload bytes) || has_ended (dcs_status bytes)

-- the fault of finishing it otherwise
abbrev pub end_fault : Limit → List ℕ → Option Fault
end_fault limit bytes = if can_finish limit bytes then None else Some Incomplete

-- the image of a DCS sequence whose payload has begun, on this decoder
abbrev pub IsStringImage : DecoderState → Stage → Image → Type 0
IsStringImage decoder Heading image = ⊥
IsStringImage decoder (Failing fault) image = ⊥
IsStringImage decoder (Reading settings payload) image =
    image ≡ payload_image (origin_of decoder settings) payload

-- and the registers after it
abbrev pub AreStringRegisters : DecoderState → Stage → List (List ℕ) → Type 0
AreStringRegisters decoder Heading after = ⊥
AreStringRegisters decoder (Failing fault) after = ⊥
AreStringRegisters decoder (Reading settings payload) after =
    after ≡ payload_registers (origin_of decoder settings) payload
