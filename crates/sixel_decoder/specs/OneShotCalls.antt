-- What decoding in one call does, by the payload that the bytes contain. Each field is one fact.
-- Which payload that is and what it means is in OneShot and Payload of sixel_base.
use Rattle.std.specs.Prelude.{◌≡◌, ◌*◌, ◌≤◌, length, None, Result, OnOk, IfOk, IfErr}
use Rattle.sixel_base.specs.declared.{error.SixelError.SixelError, state.DecoderState.DecoderState}
use Rattle.sixel_base.specs.{Fault.Faults, OneShot.{Found, found_fault, found_wants, IsFoundImage}}
use Rattle.sixel_base.specs.Payload.{Image}

-- The decoder returns the image of the payload, or an error.
pub record IsDecoded {A : Type 0} (image_of : A → Image) (decoder : DecoderState) (payload : Found)
    (result : Result A SixelError) : Type 0 where
  -- the image is that of the payload
  pub image : IfOk result (λ done. IsFoundImage decoder payload (image_of done))
  -- the area is within the limit
  pub area : IfOk result (λ done.
      (image_of done).width * (image_of done).height ≤ decoder.pixel_limit.pixels)
  -- each pixel takes four bytes
  pub pixels : IfOk result (λ done.
      length (image_of done).pixels ≡ 4 * ((image_of done).width * (image_of done).height))
  -- a payload with an image has no fault
  pub faultless : OnOk result (found_fault decoder.pixel_limit payload ≡ None)
  -- an error is the first fault, or an allocation failed
  pub refused : IfErr result (λ error. Faults error
      (found_wants decoder.pixel_limit payload) (found_fault decoder.pixel_limit payload))
