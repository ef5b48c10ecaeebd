-- What a list of steps on one decoder comes to, by the meaning of the bytes of each step. A step
-- relates the decoder before it to an outcome and the decoder after it, and a run joins steps. This
-- library's own: it does not mention chunks.
use Rattle.std.specs.{Option.option_or, Prelude.{ℕ, ◌≡◌, Bool, nat_lt, ◌||◌, List, [], ◌∷◌, Option}}
use Rattle.std.specs.Prelude.{None, is_none}
use Rattle.sixel_base.specs.{Bytes.{count, first_terminator}, Color.default_registers}
use Rattle.sixel_base.specs.Dcs.{dcs_count, dcs_status, dcs_fault, dcs_growths, end_fault}
use Rattle.sixel_base.specs.{Decoder.{with_clip, with_pixel_limit, IsSetAs}, Fault.{Fault, Faults}}
use Rattle.sixel_base.specs.{Fault.IsFault, Limits.Limit, OneShot.{Found, Payload, found}}
use Rattle.sixel_base.specs.OneShot.{found_fault, found_wants, IsFoundImage, AreFoundRegisters}
use Rattle.sixel_base.specs.Payload.{fed_fault, payload_fault, settled, growths}
use Rattle.sixel_base.specs.{Settings.Settings, Status.status_of}
use Rattle.sixel_base.specs.declared.{error.SixelError.SixelError, state.DecoderState.DecoderState}
use Rattle.icy_sixel.specs.declared.{script.End.End, script.End.TheVariants.{Finish, Abort}}
use Rattle.icy_sixel.specs.declared.{script.Outcome.Outcome, script.Outcome.TheVariants.Reset}
use Rattle.icy_sixel.specs.declared.script.Outcome.TheVariants.{Changed, Failed, Finished, Aborted}
use Rattle.icy_sixel.specs.declared.{script.Outcome.TheVariants.Decoded, script.Step.Step}
use Rattle.icy_sixel.specs.declared.sixel_image.SixelImage.{SixelImage}
use Rattle.sixel_decoder.specs.declared.received.Status.{Status}
use Rattle.icy_sixel.specs.ImageView.{image_value}
use Rattle.icy_sixel.specs.declared.script.Step.TheVariants as steps
use Rattle.sixel_decoder.specs.declared.received.Status.TheVariants as statuses

-- What bytes mean that are fed to a session: how many of them belong to it, their status, their
-- fault while the session goes on and when it is finished, whether their payload has a closed sixel
-- or raster attributes, and which payload is drawn.
pub record Meaning : Type 0 where
  pub consumed : ℕ
  pub status : Status
  pub fed_fault : Option Fault
  pub end_fault : Option Fault
  pub grows : Bool
  pub drawn : Found

abbrev pub frame_meaning : Limit → Settings → List ℕ → Meaning
frame_meaning limit settings bytes = record {
  consumed = count bytes;
  status = statuses.Payload (status_of (first_terminator bytes));
  fed_fault = fed_fault limit bytes;
  end_fault = payload_fault limit bytes;
  grows = nat_lt 0 (growths (settled bytes));
  drawn = Payload settings bytes;
}

abbrev pub string_meaning : Limit → List ℕ → Meaning
string_meaning limit bytes = record {
  consumed = dcs_count bytes;
  status = statuses.Dcs (dcs_status bytes);
  fed_fault = dcs_fault limit bytes;
  end_fault = option_or (dcs_fault limit bytes) (end_fault limit bytes);
  grows = nat_lt 0 (dcs_growths bytes);
  drawn = found bytes;
}

-- A session of these bytes that is aborted fails with the fault of the bytes so far, and changes
-- nothing. One that is finished returns the image of its payload and leaves its registers, or fails
-- with the fault at its end, and changes nothing else. An allocation can fail if the payload grows
-- the canvas, and for an image.
abbrev pub IsSessionOutcome : DecoderState → Meaning → End → Outcome → DecoderState → Type 0
IsSessionOutcome before bytes Abort (Aborted consumed status) after =
    (bytes.fed_fault ≡ None) × (consumed ≡ bytes.consumed) × (status ≡ bytes.status)
    × (after ≡ before)
IsSessionOutcome before bytes Abort (Failed error) after =
    Faults error bytes.grows bytes.fed_fault × (after ≡ before)
IsSessionOutcome before bytes Finish (Finished consumed status image) after =
    (bytes.end_fault ≡ None) × (consumed ≡ bytes.consumed) × (status ≡ bytes.status)
    × IsFoundImage before bytes.drawn (image_value image)
    × AreFoundRegisters before bytes.drawn after.registers
    × IsSetAs before after
IsSessionOutcome before bytes Finish (Failed error) after =
    Faults error (is_none bytes.end_fault || bytes.grows) bytes.end_fault × (after ≡ before)
IsSessionOutcome before bytes ending outcome after = ⊥

-- A payload that is decoded in one call returns its image and leaves its registers, or fails, and
-- changes nothing else.
abbrev pub IsDecoding : DecoderState → Found → Outcome → DecoderState → Type 0
IsDecoding before payload (Decoded image) after =
    (found_fault before.pixel_limit payload ≡ None)
    × IsFoundImage before payload (image_value image)
    × AreFoundRegisters before payload after.registers × IsSetAs before after
IsDecoding before payload (Failed error) after =
    Faults error (found_wants before.pixel_limit payload) (found_fault before.pixel_limit payload)
    × (after ≡ before)
IsDecoding before payload outcome after = ⊥

-- what a step comes to, from the decoder before it to the decoder after it
abbrev pub IsOutcome : DecoderState → Step → Outcome → DecoderState → Type 0
IsOutcome before steps.Reset outcome after =
    (outcome ≡ Reset) × (after ≡ record before { registers = default_registers })
IsOutcome before (steps.RasterCrop on) outcome after =
    (outcome ≡ Changed) × (after ≡ record before { raster_crop = on })
IsOutcome before (steps.PixelLimit pixels) outcome after =
    (outcome ≡ Changed) × (after ≡ with_pixel_limit before pixels)
IsOutcome before (steps.Clip width height) outcome after =
    (outcome ≡ Changed) × (after ≡ with_clip before width height)
IsOutcome before (steps.Frame settings bytes cuts ending) outcome after =
    IsSessionOutcome before (frame_meaning before.pixel_limit settings bytes.now) ending outcome
    after
IsOutcome before (steps.Dcs bytes cuts ending) outcome after =
    IsSessionOutcome before (string_meaning before.pixel_limit bytes.now) ending outcome after
IsOutcome before (steps.Decode bytes) outcome after =
    IsDecoding before (found bytes.now) outcome after
IsOutcome before (steps.DecodeFromDcs bytes settings) outcome after =
    IsDecoding before (Payload settings bytes.now) outcome after

-- the steps come to these outcomes one by one, and the decoder after each is that before the next
abbrev pub AreOutcomes : DecoderState → List Step → List Outcome → DecoderState → Type 0
AreOutcomes before [] [] after = after ≡ before
AreOutcomes before (step ∷ steps) (outcome ∷ outcomes) after =
    (between : DecoderState) × IsOutcome before step outcome between
    × AreOutcomes between steps outcomes after
AreOutcomes before steps outcomes after = ⊥

-- the same step, its bytes perhaps cut in other places
abbrev pub IsRecut : Step → Step → Type 0
IsRecut (steps.Frame settings bytes cuts ending) (steps.Frame same copy others end) =
    (same ≡ settings) × (copy.now ≡ bytes.now) × (end ≡ ending)
IsRecut (steps.Dcs bytes cuts ending) (steps.Dcs copy others end) =
    (copy.now ≡ bytes.now) × (end ≡ ending)
IsRecut step other = other ≡ step

-- the same outcome, wherever its bytes are stored: errors name the same fault, and images have the
-- same sizes, pixels and properties
abbrev pub IsSameOutcome : Outcome → Outcome → Type 0
IsSameOutcome (Failed error) other =
    (also : SixelError) × (other ≡ Failed also)
    × (fault : Fault) × IsFault error fault × IsFault also fault
IsSameOutcome (Finished consumed status image) other =
    (also : SixelImage) × (other ≡ Finished consumed status also)
    × (image_value also ≡ image_value image)
IsSameOutcome (Decoded image) other =
    (also : SixelImage) × (other ≡ Decoded also) × (image_value also ≡ image_value image)
IsSameOutcome outcome other = other ≡ outcome
