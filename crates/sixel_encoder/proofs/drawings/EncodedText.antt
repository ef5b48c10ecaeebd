-- What the text of an image that was encoded is: blind to what is hidden, no longer than the plain
-- one, and read back as its trip.
use Rattle.std.proofs.Common.{◌≡◌, ℕ, ◌*◌, ◌<◌, ◌≤◌, List, Result, Ok, Err, sym, ap, ◌∙◌, arith}
use Rattle.std.proofs.Common.{length, None}
use Rattle.std.specs.Prelude.{All, IfErr, IfOk, OnOk, MatchOption}
use Rattle.std.proofs.lemmas.Bool.Decides.{nat_tests}
use Rattle.sixel_encoder.proofs.plain_text.Text.{IsDrawnText-plain}
use Rattle.sixel_base.specs.declared.{error.SixelError.SixelError, state.DecoderState.DecoderState}
use Rattle.sixel_base.specs.declared.error.SixelError.TheVariants.{OutOfMemory}
use Rattle.sixel_base.specs.{Limits.Limit, Payload.Image, Size.banded}
use Rattle.sixel_encoder.specs.declared.{form.TextForm.TextForm, form.TextForm.TheVariants.Plain}
use Rattle.sixel_encoder.specs.declared.form.TextForm.TheVariants.{Compact}
use Rattle.sixel_encoder.specs.{Encoding.{image_fault, IsDrawing, IsText}, Form.IsFormText}
use Rattle.sixel_encoder.specs.{Form.form_text, Marks.IsDrawnText, Text.Drawing, Trip.CanRead}
use Rattle.sixel_encoder.specs.Trip.{trip, IsReadAs, IsOneString, IsWritable}
use Rattle.sixel_encoder.proofs.compact_form.Text.{length-compact, IsDrawnText-compact}
use Rattle.sixel_encoder.proofs.round_trip.DcsText.{IsOneString-drawn, IsReadAs-drawn}
use Rattle.sixel_encoder.proofs.round_trip.TripLimits.{CanRead-drawn, IsWritable-drawn, area-drawn}

-- a text of marks that draw the drawing
pub IsDrawnText-form : (form : TextForm) (drawing : Drawing) → IsWritable drawing
    → IsDrawnText drawing (form_text form drawing)
IsDrawnText-form Plain drawing is = IsDrawnText-plain drawing is
IsDrawnText-form Compact drawing is = IsDrawnText-compact drawing is

-- where the drawings are one, so are the texts
pub hidden-written : {S : Type 0} (form : TextForm) (bytes : S → List ℕ)
    (result : Result S SixelError) (image other : Image) (k : ℕ) (others : List ℕ)
    → ((drawing another : Drawing) → All (λ byte. byte < 256) image.pixels
    → IsDrawing image k drawing → IsDrawing other k another → drawing ≡ another)
    → OnOk result (All (λ byte. byte < 256) image.pixels)
    → IfOk result (λ text. IsFormText form image k (bytes text)) → IsFormText form other k others
    → IfOk result (λ text. bytes text ≡ others)
hidden-written form bytes (Ok text) image other k others one fits is also =
    is.2 ∙ (ap (form_text form) (one is.0 also.0 fits is.1 also.1) ∙ sym also.2)
hidden-written form bytes (Err e) image other k others one fits is also = tt

-- and none is longer than the plain one
pub short-written : {S : Type 0} (form : TextForm) (bytes : S → List ℕ)
    (result : Result S SixelError) (image : Image) (k : ℕ) (plain : List ℕ)
    → ((drawing another : Drawing) → All (λ byte. byte < 256) image.pixels
    → IsDrawing image k drawing → IsDrawing image k another → drawing ≡ another)
    → OnOk result (All (λ byte. byte < 256) image.pixels)
    → IfOk result (λ text. IsFormText form image k (bytes text)) → IsText image k plain
    → IfOk result (λ text. length (bytes text) ≤ length plain)
short-written form bytes (Ok text) image k plain one fits is also =
    let same : is.0 ≡ also.0 = one is.0 also.0 fits is.1 also.1 in
    grind (arith, nat_tests, length-compact)
short-written form bytes (Err e) image k plain one fits is also = tt

module _ (form : TextForm) where
  -- the text of an image is one DCS sequence
  pub one_string-form : (limit : Limit) (image : Image) (k : ℕ) (bytes : List ℕ)
      → image_fault image ≡ None → All (λ byte. byte < 256) image.pixels
      → image.width * banded image.height ≤ limit.pixels → IsFormText form image k bytes
      → IsOneString limit bytes
  one_string-form limit image k bytes sound fits room is =
      let drawn = IsWritable-drawn image k is.0 is.1 sound fits in
      let small = area-drawn image k is.0 is.1 in
      rw is.2 (IsOneString-drawn limit is.0 _ drawn (IsDrawnText-form form is.0 drawn)
      (omega (arith, room)))

  -- it is read back as the trip of the image's drawing
  pub read_back-form : (decoder : DecoderState) (image : Image) (k : ℕ) (bytes : List ℕ)
      → image_fault image ≡ None → All (λ byte. byte < 256) image.pixels
      → CanRead decoder image.width image.height → IsFormText form image k bytes
      → (drawing : Drawing) × IsDrawing image k drawing
      × IsReadAs decoder bytes (trip decoder.raster_crop drawing)
  read_back-form decoder image k bytes sound fits reads is =
      let drawn = IsWritable-drawn image k is.0 is.1 sound fits in
      let back = CanRead-drawn image k is.0 is.1 decoder reads in (
        is.0,
        is.1,
        rw is.2 (IsReadAs-drawn decoder is.0 _ drawn (IsDrawnText-form form is.0 drawn) back),
      )

pub one_string-written : {S : Type 0} (form : TextForm) (bytes : S → List ℕ)
    (result : Result S SixelError) (limit : Limit) (image : Image) (k : ℕ)
    → MatchOption (image_fault image) (IfErr result (λ e. e ≡ OutOfMemory)) (λ f. result ≡ Err f)
    → OnOk result (All (λ byte. byte < 256) image.pixels)
    → IfOk result (λ text. IsFormText form image k (bytes text))
    → image.width * banded image.height ≤ limit.pixels
    → IfOk result (λ text. IsOneString limit (bytes text))
one_string-written form bytes (Ok text) limit image k refused fits is room =
    one_string-form form limit image k (bytes text) (grind (arith, nat_tests)) fits room is
one_string-written form bytes (Err e) limit image k refused fits is room = tt

pub read_back-written : {S : Type 0} (form : TextForm) (bytes : S → List ℕ)
    (result : Result S SixelError) (decoder : DecoderState) (image : Image) (k : ℕ)
    → MatchOption (image_fault image) (IfErr result (λ e. e ≡ OutOfMemory)) (λ f. result ≡ Err f)
    → OnOk result (All (λ byte. byte < 256) image.pixels)
    → IfOk result (λ text. IsFormText form image k (bytes text))
    → CanRead decoder image.width image.height
    → IfOk result
    (λ text.
    (drawing : Drawing) × IsDrawing image k drawing
    × IsReadAs decoder (bytes text) (trip decoder.raster_crop drawing))
read_back-written form bytes (Ok text) decoder image k refused fits is reads =
    read_back-form form decoder image k (bytes text) (grind (arith, nat_tests)) fits reads is
read_back-written form bytes (Err e) decoder image k refused fits is reads = tt
