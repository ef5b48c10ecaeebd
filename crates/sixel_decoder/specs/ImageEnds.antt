-- Which bytes belong to an image, whatever faults they have, and how it has ended. A payload has
-- the bytes before its first terminator. No byte of an introducer or a header is a terminator,
-- apart from the first one. So a DCS sequence has its first byte, and those that a payload of the
-- bytes after it has, with its end. From DEC's device control strings.
use Rattle.std.specs.Prelude.{ℕ, ◌≡◌, ◌+◌, ◌-◌, ◌≤◌, ◌==◌, ◌||◌, nat_lt, if◌then◌else◌, Bool, List}
use Rattle.std.specs.Prelude.{[], ◌∷◌, length, Option}
use Rattle.sixel_base.specs.{Bytes.{count, first_terminator}, Dcs.{payload_count, payload_status}}
use Rattle.sixel_base.specs.{Dcs.ended_with, Status.status_of}
use Rattle.sixel_base.specs.declared.status.SixelDcsFeedStatus.{SixelDcsFeedStatus}
use Rattle.sixel_base.specs.declared.status.SixelFeedStatus.TheVariants.{NeedMoreData}
use Rattle.sixel_decoder.specs.Reception.{Form, Nothing, OfPayload, OfString}
use Rattle.sixel_decoder.specs.declared.{received.Received.Received, received.Status.Status}
use Rattle.sixel_decoder.specs.declared.received.Status.TheVariants as statuses

-- the bytes after the first one of an introducer, DCS or ESC; all bytes if there is none
abbrev pub inside : List ℕ → List ℕ
inside [] = []
inside (byte ∷ bytes) = if byte == 0x90 || byte == 27 then bytes else byte ∷ bytes

-- how many bytes belong to a DCS sequence
abbrev pub sequence_count : List ℕ → ℕ
sequence_count bytes = (length bytes - length (inside bytes)) + payload_count (inside bytes)

-- how it has ended
abbrev pub sequence_status : List ℕ → SixelDcsFeedStatus
sequence_status bytes = payload_status (inside bytes)

-- what is stored of a DCS sequence of these bytes
pub record IsEnd (is_begun : Bool) (status : Option SixelDcsFeedStatus) (bytes : List ℕ)
    : Type 0 where
  pub begun : is_begun ≡ nat_lt 0 (length bytes)
  pub ended : status ≡ ended_with (inside bytes)

-- how many bytes belong to an image of either form, and its status
abbrev pub own_count : Form → List ℕ → ℕ
own_count Nothing bytes = 0
own_count (OfPayload settings) bytes = count bytes
own_count OfString bytes = sequence_count bytes

abbrev pub own_status : Form → List ℕ → Status
own_status Nothing bytes = statuses.Payload NeedMoreData
own_status (OfPayload settings) bytes = statuses.Payload (status_of (first_terminator bytes))
own_status OfString bytes = statuses.Dcs (sequence_status bytes)

-- An image continues by a chunk to all these bytes.
pub record Extends (form : Form) (bytes all chunk : List ℕ) (fed : Received) : Type 0 where
  -- the bytes consumed are those of the chunk that belong to the image
  pub count : own_count form bytes + fed.consumed ≡ own_count form all
  pub within : fed.consumed ≤ length chunk
  -- the status says so, too
  pub status : fed.status ≡ own_status form all
