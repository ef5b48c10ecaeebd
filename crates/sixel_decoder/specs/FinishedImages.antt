-- What finishing an image that is read in chunks returns. Each field is one fact. What the bytes
-- mean is in Payload, Dcs and OneShot of sixel_base, which do not mention chunks.
use Rattle.std.specs.Prelude.{ℕ, ◌≡◌, ◌≢◌, ◌*◌, ◌≤◌, ◌++◌, min, if◌then◌else◌, Bool, false, List}
use Rattle.std.specs.Prelude.{Option, Some, None, is_none, Result, Err, OnOk, IfOk, IfErr}
use Rattle.std.specs.Prelude.{MatchBool}
use Rattle.sixel_base.specs.Dcs.{IsStringImage, AreStringRegisters, can_finish, dcs_status}
use Rattle.sixel_base.specs.Fault.{Fault, Faults, IsFault, MissingCommand, StreamFailed}
use Rattle.sixel_base.specs.{Fault.DcsStreamFailed, Limits.Limit, OneShot.{Found, Payload}}
use Rattle.sixel_base.specs.OneShot.{NoPayload, found_fault, IsFoundImage, AreFoundRegisters}
use Rattle.sixel_base.specs.{OneShot.IsDecodedAs, Payload.{Image, payload_fault, payload_wants}}
use Rattle.sixel_base.specs.{Settings.Settings, declared.error.SixelError.SixelError}
use Rattle.sixel_decoder.specs.{FinalRows.found_pixel, PictureView.{picture_report, whole_image}}
use Rattle.sixel_decoder.specs.Reception.{Form, Nothing, OfPayload, OfString, Reception, found}
use Rattle.sixel_decoder.specs.{Reception.stage_of, Report.found_report}
use Rattle.sixel_decoder.specs.declared.decoded_payload.DecodedPayload.{DecodedPayload}
use Rattle.sixel_base.specs.Dcs as strings
use Rattle.sixel_base.specs.OneShot as one_shot

-- the payload that is drawn if more bytes follow those of a DCS sequence that has ended
abbrev pub found_followed : Form → List ℕ → List ℕ → Found
found_followed Nothing bytes more = NoPayload StreamFailed
found_followed (OfPayload settings) bytes more = Payload settings bytes
found_followed OfString bytes more =
    one_shot.found (if strings.has_ended (dcs_status bytes) then bytes ++ more else bytes)

-- why its image is rejected, if no feed was
abbrev pub end_fault : Limit → Form → List ℕ → Option Fault
end_fault limit Nothing bytes = Some StreamFailed
end_fault limit (OfPayload settings) bytes = payload_fault limit bytes
end_fault limit OfString bytes = strings.end_fault limit bytes

-- whether its image can fail because an allocation fails
abbrev pub end_wants : Limit → Form → List ℕ → Bool
end_wants limit Nothing bytes = false
end_wants limit (OfPayload settings) bytes = is_none (payload_fault limit bytes)
end_wants limit OfString bytes = can_finish limit bytes

-- the fault of each call after an error, if no error is stored
abbrev pub failed : Form → Fault
failed Nothing = StreamFailed
failed (OfPayload settings) = StreamFailed
failed OfString = DcsStreamFailed

-- the error is that of the stored fault, and a missing command is stored for no image
abbrev pub IsStored : Option (Option Fault) → SixelError → Type 0
IsStored None error = ⊥
IsStored (Some fault) error =
    Faults error (is_none fault) fault × (fault ≢ Some MissingCommand)

-- the error of each call after an error: the stored one, or that the stream has failed
abbrev pub IsAgain : Option (Option Fault) → Form → SixelError → Type 0
IsAgain None form error = IsFault error (failed form)
IsAgain failure form error = IsStored failure error

-- The image of the bytes is returned, with the registers after it, or an error.
pub record IsFinished {A : Type 0} (image_of : A → Image) (registers_of : A → List (List ℕ))
    (reception : Reception) (result : Result A SixelError) : Type 0 where
  -- the image is that of the payload
  pub image : IfOk result (λ done.
      IsStringImage reception.start (stage_of reception.form reception.bytes) (image_of done))
  -- the registers are those that the payload leaves
  pub registers : IfOk result (λ done. AreStringRegisters reception.start
      (stage_of reception.form reception.bytes) (registers_of done))
  -- decoding these bytes in one call returns the same image
  pub found_image : IfOk result (λ done.
      IsFoundImage reception.start (found reception.form reception.bytes) (image_of done))
  -- it leaves the same registers
  pub found_registers : IfOk result (λ done.
      AreFoundRegisters reception.start (found reception.form reception.bytes) (registers_of done))
  -- that stays so, whatever bytes follow a DCS sequence that has ended
  pub as_decoded : (more : List ℕ) → IfOk result (λ done. IsDecodedAs reception.start
      (found_followed reception.form reception.bytes more) (image_of done) (registers_of done))
  -- the area is within the limit
  pub area : IfOk result (λ done.
      (image_of done).width * (image_of done).height ≤ reception.start.pixel_limit.pixels)
  -- a payload with an image has no fault
  pub faultless : OnOk result
      (found_fault reception.start.pixel_limit (found reception.form reception.bytes) ≡ None)
  -- a rejected image is never returned
  pub accepted : OnOk result (reception.is_refused ≡ false)
  -- a DCS sequence has an image only once it has ended, unless it is lenient
  pub ended : OnOk result
      (end_fault reception.start.pixel_limit reception.form reception.bytes ≡ None)
  -- an error is the fault of the bytes, or an allocation failed; a rejected image reports its error
  -- again, or that the stream has failed
  pub error : IfErr result (λ error. MatchBool reception.is_refused
      (IsAgain reception.failure reception.form error)
      (Faults error
      (end_wants reception.start.pixel_limit reception.form reception.bytes)
      (end_fault reception.start.pixel_limit reception.form reception.bytes)))
  -- decoding the bytes of a payload in one call fails with that error
  pub refused : (settings : Settings) (error : SixelError)
      → reception.form ≡ OfPayload settings → result ≡ Err error → reception.is_refused ≡ false
      → Faults error
      (payload_wants reception.start.pixel_limit reception.bytes)
      (payload_fault reception.start.pixel_limit reception.bytes)

-- the whole image, with the released rows above those that are left
abbrev pub shown_whole : Reception → DecodedPayload → Image
shown_whole image = whole_image (found_pixel image.start (found image.form image.bytes))

-- The rows of the image that are left are taken off its canvas.
pub record IsTaken (image : Reception) (result : Result DecodedPayload SixelError) : Type 0 where
  pub finished : IsFinished (shown_whole image) (λ picture. picture.registers) image result
  pub first : IfOk result (λ picture. picture.first_row ≡ min image.released picture.height)
  pub report : IfOk result (λ picture.
      picture_report picture ≡ found_report image.start (found image.form image.bytes))
