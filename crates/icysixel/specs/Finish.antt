-- What finishing an image and decoding in one call do, as C sees them: the state before and after,
-- what is reported, and the code. The facts are those of the receiver.
use Rattle.std.specs.Prelude.{ℕ, ◌≡◌, true, false, None, Result, IfOk, min}
use Rattle.sixel_base.specs.{OneShot.Found, declared.error.SixelError.SixelError}
use Rattle.icy_sixel.specs.ReceivedImages.{found_report, received_report}
use Rattle.icy_sixel.specs.Receiver.{AreSettingsKept, found, is_open, is_over, no_image}
use Rattle.icy_sixel.specs.ReceiverCalls.{whole_of}
use Rattle.icy_sixel.specs.declared.receiver.received_image.ReceivedImage.{ReceivedImage}
use Rattle.icysixel.specs.{Heights.IsStored, declared.shape.Shape.Shape, declared.state.State.State}
use Rattle.icy_sixel.specs.ReceiverCalls as receivers

-- The open image was finished: what the receiver returned, which is stored and reported.
pub record IsClosed (before after : State) (now : Shape) (code : ℕ) : Type 0 where
  pub result : Result ReceivedImage SixelError
  -- with the rows that were released above those that are left it is the image of its bytes
  pub finished : receivers.IsFinished (whole_of before.receiver.image) before.receiver
      after.receiver result
  pub first : IfOk result (λ whole.
      whole.first_row ≡ min before.receiver.image.released whole.height)
  pub report : IfOk result (λ whole. received_report whole ≡ found_report
      before.receiver.image.start (found before.receiver.image.form before.receiver.image.bytes))
  pub stored : IsStored before.height
      (is_over before.receiver.image.form before.receiver.image.bytes) result after.image now code

-- An image that is open was finished.
pub record IsFinished (before after : State) (now : Shape) (code : ℕ) : Type 0 where
  -- without one the code is 2, and no image is stored then
  pub unopened : is_open before.receiver.image.form ≡ false → code ≡ 2
  pub dropped : is_open before.receiver.image.form ≡ false → after.image ≡ None
  pub unchanged : is_open before.receiver.image.form ≡ false
      → after.receiver.decoder ≡ before.receiver.decoder
  pub settings : AreSettingsKept before.receiver after.receiver
  pub closed : after.receiver.image ≡ no_image
  pub height : after.height ≡ before.height
  pub opened : is_open before.receiver.image.form ≡ true → IsClosed before after now code

-- This payload was decoded: what the receiver returned, which is stored and reported.
pub record IsDecoded (before after : State) (payload : Found) (now : Shape) (code : ℕ)
    : Type 0 where
  pub result : Result ReceivedImage SixelError
  pub decoded : receivers.IsDecoded before.receiver after.receiver payload result
  pub height : after.height ≡ before.height
  pub stored : IsStored before.height true result after.image now code
