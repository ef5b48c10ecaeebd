-- What the calls of a receiver do, by the receiver before and after. Each field is one fact. The
-- facts are those of a payload session or a DCS session, in the words that Receiver has for both.
use Rattle.std.specs.Prelude.{ℕ, ◌≡◌, List, Result, Ok, Err, OnErr, OnOk, IfOk, MatchResult}
use Rattle.std.specs.Result.{result_map_both}
use Rattle.sixel_base.specs.{Decoder.IsSetAs, OneShot.{Found, AreFoundRegisters}, Payload.Image}
use Rattle.sixel_base.specs.declared.error.SixelError.{SixelError}
use Rattle.sixel_decoder.specs.{ImageEnds.Extends, declared.received.Received.Received}
use Rattle.icy_sixel.specs.ReceivedImages.{found_report, left_value, received_report, whole_value}
use Rattle.icy_sixel.specs.{ReceivedRows.pixel_so_far, Receiver.{AreSettingsKept, Form, Receiver}}
use Rattle.icy_sixel.specs.Receiver.{Reception, no_image, start_of}
use Rattle.icy_sixel.specs.declared.receiver.FailedFeed.{FailedFeed}
use Rattle.icy_sixel.specs.declared.receiver.received_image.ReceivedImage.{ReceivedImage}
use Rattle.sixel_decoder.specs.FedImages as fed_images
use Rattle.sixel_decoder.specs.FinishedImages as images
use Rattle.sixel_decoder.specs.OneShotCalls as one_shot
use Rattle.icy_sixel.specs.Receiver as receivers
pub use Rattle.sixel_decoder.specs.Progress.{IsBandPaintCount, IsBandWriteCount}
pub use Rattle.sixel_decoder.specs.Progress.{IsDrawnHeight, IsSizeSoFar}

-- The receiver opens an image of this form, and aborts the one that was open.
pub record IsBegun (old new : Receiver) (form : Form) : Type 0 where
  -- the decoder and the settings stay
  pub decoder : new.decoder ≡ old.decoder
  pub settings : AreSettingsKept old new
  -- the image was fed nothing, and begins from both
  pub image : new.image ≡ receivers.begun form (start_of old)

-- The bytes consumed are those of the chunk that belong to the image, whatever faults it has.
abbrev pub IsCounted : Reception → Reception → List ℕ → Received → Type 0
IsCounted old new chunk fed = Extends old.form old.bytes new.bytes chunk fed

-- what a feed did, whether it failed or not
abbrev pub received : Result Received FailedFeed → Received
received (Ok fed) = fed
received (Err failed) = record { consumed = failed.consumed; status = failed.status }

-- The open image reads the chunk, or is rejected.
pub record IsFed (old new : Receiver) (chunk : List ℕ)
    (result : Result Received FailedFeed) : Type 0 where
  -- the decoder and the settings stay
  pub decoder : new.decoder ≡ old.decoder
  pub settings : AreSettingsKept old new
  -- what the chunk does to the image
  pub fed : fed_images.IsFed old.image new.image chunk
      (result_map_both (λ received. received) (λ failed. failed.error) result)
  -- an error is stored, so each later feed of the image returns it again
  pub failure : MatchResult result (λ _. new.image.failure ≡ old.image.failure)
      (λ failed. images.IsStored new.image.failure failed.error)
  -- whether the feed fails or not, faults have no effect on which bytes belong to the image
  pub counted : IsCounted old.image new.image chunk (received result)

-- the image that a receiver has finished: the released rows are above those that are left
abbrev pub whole_of : Reception → ReceivedImage → Image
whole_of image = whole_value (pixel_so_far image.start image.form image.bytes)

-- The open image ends, and the decoder has the registers after it; or the call reports an error.
pub record IsFinished {A : Type 0} (image_of : A → Image) (old new : Receiver)
    (result : Result A SixelError) : Type 0 where
  -- no image is open then
  pub closed : new.image ≡ no_image
  -- the image is that of its bytes, and the registers those that its payload leaves
  pub finished : images.IsFinished image_of (λ _. new.decoder.registers) old.image result
  -- crop and limit of the decoder stay, and the settings of the receiver
  pub set : IsSetAs old.decoder new.decoder
  pub settings : AreSettingsKept old new
  -- an error leaves the decoder as it was
  pub kept : OnErr result (new.decoder ≡ old.decoder)

-- A payload is decoded in one call, by the settings of the receiver, and an open image is aborted.
pub record IsDecoded (old new : Receiver) (payload : Found)
    (result : Result ReceivedImage SixelError) : Type 0 where
  -- the image is that of the payload, or the error its fault
  pub decoded : one_shot.IsDecoded left_value (start_of old) payload result
  pub first : IfOk result (λ image. image.first_row ≡ 0)
  pub report : IfOk result (λ image.
      received_report image ≡ found_report (start_of old) payload)
  -- the registers are those that the payload leaves
  pub registers : OnOk result (AreFoundRegisters (start_of old) payload new.decoder.registers)
  -- no image is open then
  pub closed : new.image ≡ no_image
  -- crop and limit of the decoder stay, and the settings of the receiver
  pub set : IsSetAs old.decoder new.decoder
  pub settings : AreSettingsKept old new
  -- an error leaves the decoder as it was
  pub kept : OnErr result (new.decoder ≡ old.decoder)

-- The open image is aborted.
pub record IsAborted (old new : Receiver) : Type 0 where
  -- the decoder and the settings stay
  pub decoder : new.decoder ≡ old.decoder
  pub settings : AreSettingsKept old new
  -- no image is open then
  pub closed : new.image ≡ no_image
