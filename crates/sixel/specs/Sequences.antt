-- What the program writes for DCS sequences that follow one another on one decoder: the image of
-- each, until one ends early or no byte is left. It follows from the meaning of DCS sequences, and
-- does not mention chunks. The order is this program's own: each image is written before the next
-- sequence is read, and stays written if that one is rejected.
use Rattle.std.specs.{Option.option_or, Prelude.{◌≡◌, ◌<◌, ℕ, true, List, [], ◌∷◌, ◌++◌, length}}
use Rattle.std.specs.Prelude.{drop, Option, None}
use Rattle.sixel_base.specs.declared.{error.SixelError.SixelError, state.DecoderState.DecoderState}
use Rattle.sixel_base.specs.declared.status.SixelDcsFeedStatus.{SixelDcsFeedStatus}
use Rattle.sixel_base.specs.declared.status.SixelDcsFeedStatus.TheVariants.{Complete}
use Rattle.sixel_base.specs.{Dcs.{dcs_status, dcs_count, dcs_fault, end_fault}, Decoder.IsSetAs}
use Rattle.sixel_base.specs.{Fault.{Fault, Faults}, Limits.Limit, OneShot.{found, IsFoundImage}}
use Rattle.sixel_base.specs.{OneShot.AreFoundRegisters, Payload.Image}
use Rattle.sixel.specs.{Ending.{Ending, Done, Refused}, Form.image_form}

-- why the sequence is rejected that the bytes begin with, if no more come after them: a fault, or
-- an end that is missing
abbrev pub sequence_fault : Limit → List ℕ → Option Fault
sequence_fault limit [] = None
sequence_fault limit (byte ∷ bytes) =
    option_or (dcs_fault limit (byte ∷ bytes)) (end_fault limit (byte ∷ bytes))

-- The bytes after a sequence with this status: none if it ended before its terminator. One that has
-- not ended has a fault, unless the decoder is lenient.
abbrev pub rest_by : SixelDcsFeedStatus → List ℕ → List ℕ
rest_by Complete after = after
rest_by status after = []

-- the bytes after the sequence that the bytes begin with
abbrev pub rest_of : List ℕ → List ℕ
rest_of bytes = rest_by (dcs_status bytes) (drop (dcs_count bytes) bytes)

-- The sequence that the bytes begin with has no fault, has this image, and leaves this decoder.
pub record HasEnded (decoder : DecoderState) (bytes : List ℕ) (image : Image) (after : DecoderState)
    : Type 0 where
  pub some : 0 < length bytes
  pub faultless : sequence_fault decoder.pixel_limit bytes ≡ None
  pub shows : IsFoundImage decoder (found bytes) image
  pub leaves : AreFoundRegisters decoder (found bytes) after.registers
  pub set : IsSetAs decoder after

-- By this decoder, this is the output for these bytes, and so it ends.
pub data IsSequencesOutput : DecoderState → List ℕ → List ℕ → Ending → Type 0 where
  -- no sequence is left
  Over : (decoder : DecoderState) → IsSequencesOutput decoder [] [] Done
  -- the first sequence is rejected, or an allocation fails
  Broken : (decoder : DecoderState) (bytes : List ℕ) (error : SixelError)
      → Faults error true (sequence_fault decoder.pixel_limit bytes)
      → IsSequencesOutput decoder bytes [] (Refused error)
  -- the image of the first sequence, and the output for the bytes after it, by the decoder after
  -- it; if none are left, nothing fails
  Followed : (decoder after : DecoderState) (bytes text : List ℕ) (image : Image) (ending : Ending)
      → HasEnded decoder bytes image after → (rest_of bytes ≡ [] → ending ≡ Done)
      → IsSequencesOutput after (rest_of bytes) text ending
      → IsSequencesOutput decoder bytes (image_form image ++ text) ending
