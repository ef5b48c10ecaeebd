-- What is drawn of an image within the limits can be written, and a trip leads to an image within
-- the limits.
use Rattle.std.proofs.Common.{◌≡◌, ℕ, Bool, zero, suc, ◌+◌, ◌*◌, ◌<◌, List, ◌∷◌, ◌++◌, map, get_or}
use Rattle.std.proofs.Common.{arith, [], ◌/◌, ◌%◌, None}
use Rattle.std.specs.Prelude.{Option, All}
use Rattle.std.proofs.lemmas.{Bool.Decides.nat_tests, List.get_or_default}
use Rattle.std.proofs.lemmas.List.Elements.{All-from_get_or}
use Rattle.sixel_palette.specs.Palette.{IsShown}
use Rattle.sixel_base.specs.{Decoder.new_decoder, Payload.Image, Size.banded}
use Rattle.sixel_base.specs.declared.state.DecoderState.{DecoderState}
use Rattle.sixel_palette.proofs.traversal.Order.{members_from_order}
use Rattle.sixel_encoder.specs.{Encoding.{IsDrawing, image_fault}, Text.{Drawing, bands}, Trip.trip}
use Rattle.sixel_encoder.specs.Trip.{IsColor, IsWritable, CanRead, rounded, trip_pixel, trip_height}
use Rattle.sixel_encoder.proofs.drawings.Sizes.{within-sound, sound-within}
use Rattle.sixel_encoder.proofs.round_trip.{DrawnHeight.bands_up_to-le, Percentages.rounded_byte}
use Rattle.sixel_encoder.proofs.round_trip.TripPixels.{byte-trip, length-trip}

-- ---- an image's drawing

-- a shown color is three bytes
IsColor-shown : (pixels c : List ℕ) → All (λ b. b < 256) pixels → IsShown pixels c → IsColor c
IsColor-shown pixels c bytes shown = grind (arith, nat_tests)

module _ (image : Image) (max_colors : ℕ) (drawing : Drawing)
    (drawn : IsDrawing image max_colors drawing) where
  -- it can be written
  pub IsWritable-drawn : image_fault image ≡ None → All (λ b. b < 256) image.pixels
      → IsWritable drawing
  IsWritable-drawn sound bytes =
      let is = within-sound image sound in
      let rows : 6 * bands drawing.height ≡ 6 * bands image.height = grind (arith, nat_tests) in
      record {
        some_width = omega (arith, drawn.width, is.some_width);
        some_height = omega (arith, drawn.height, is.some_height);
        wide = omega (arith, drawn.width, is.wide);
        high = omega (arith, rows, is.high);
        area = grind (arith, nat_tests);
        pixels = grind (arith, nat_tests);
        few = omega (arith, drawn.palette.size.2);
        colors = λ k d l.
            IsColor-shown image.pixels _ bytes (members_from_order _ _ drawn.palette.order k d l);
        known = λ k d l. grind (arith, nat_tests, get_or_default);
      }

  -- it takes as much room in whole bands as its image
  pub area-drawn : drawing.width * banded drawing.height ≡ image.width * banded image.height
  area-drawn = grind (arith, nat_tests)

  -- so what can read a text of the image's size can read the drawing's
  pub CanRead-drawn : (decoder : DecoderState) → CanRead decoder image.width image.height
      → CanRead decoder drawing.width drawing.height
  CanRead-drawn decoder reads = grind (arith, nat_tests, area-drawn)

-- as a new decoder can
pub CanRead-new : (image : Image) → image_fault image ≡ None
    → CanRead new_decoder image.width image.height
CanRead-new image sound = grind (arith, nat_tests, within-sound)

-- a rounded color and its alpha are bytes
byte-rounded : (c : List ℕ) (i : ℕ) → get_or (map rounded c ++ 255 ∷ []) i 0 < 256
byte-rounded [] zero = omega arith
byte-rounded [] (suc i) = omega arith
byte-rounded (n ∷ c) zero = rounded_byte n
byte-rounded (n ∷ c) (suc i) = byte-rounded c i

-- each pixel of a trip has bytes
byte-trip_pixel : (drawing : Drawing) (place : Option ℕ) (i : ℕ) → i < 4
    → get_or (trip_pixel drawing place) i 0 < 256
byte-trip_pixel drawing place i l = grind (arith, nat_tests, byte-rounded)

module _ (crop : Bool) (drawing : Drawing) where
  -- ---- the image of a trip

  -- a drawing that is read again has as many bands
  pub bands-trip : bands (trip_height crop drawing) ≡ bands drawing.height
  bands-trip = grind (arith, nat_tests, bands_up_to-le)

  -- the bytes of a trip are bytes
  pub bytes-trip : IsWritable drawing → All (λ b. b < 256) (trip crop drawing).pixels
  bytes-trip is =
      All-from_get_or (λ b. b < 256) (trip crop drawing).pixels 0
      (λ k l.
      let all = length-trip crop drawing is in
      let split : 4 * (k / 4) + k % 4 ≡ k = omega arith in
      grind (arith, nat_tests, byte-trip, byte-trip_pixel))

  -- a trip stays within the limits
  pub image_fault-trip : IsWritable drawing → image_fault (trip crop drawing) ≡ None
  image_fault-trip is = grind (arith, nat_tests, sound-within, length-trip, bands-trip)
