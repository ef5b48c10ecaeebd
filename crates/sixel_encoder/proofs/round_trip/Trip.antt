-- The round trip: what the payload of marks that draw a drawing means is the drawing's trip,
-- without a fault.
use Rattle.std.proofs.lemmas.List.FromFn.{get_or-map-range_with_len, length-map-range_with_len}
use Rattle.std.proofs.lemmas.{List.get_or_past, Bool.Decides.nat_tests, Nat.mul-le}
use Rattle.std.proofs.Common.{length, arith, false, None, Some, List, ◌++◌, ◌*◌, ◌<◌, ◌∷◌, ◌≡◌, ◌≤◌}
use Rattle.std.proofs.Common.{map, [], ℕ}
use Rattle.std.specs.Prelude.{slice_index_or}
use Rattle.sixel_base.specs.{Bytes.front, Color.{default_color, default_registers}}
use Rattle.sixel_base.specs.{Decoder.origin_of, History.history_of, Limits.Limit}
use Rattle.sixel_base.specs.Payload.{payload_registers, Image, image_of, payload_fault}
use Rattle.sixel_base.specs.{Payload.payload_image, Picture.picture, Settings.mode_of, Size.banded}
use Rattle.sixel_base.specs.Stroke.{Origin, background, pixel, registers}
use Rattle.sixel_base.specs.declared.state.DecoderState.{DecoderState}
use Rattle.sixel_base.proofs.ToleratedTokens.{effective-off, fault-sound}
use Rattle.sixel_encoder.specs.Marks.{Definition, Draws, Mark, first_pen, marks_payload, painted}
use Rattle.sixel_encoder.specs.{Marks.{moved_by, register_entry}, Text.{Drawing, bands, entry_at}}
use Rattle.sixel_encoder.specs.Trip.{trip_pixel, CanShow, IsWritable, blank, drawing_settings}
use Rattle.sixel_encoder.specs.Trip.{rounded, trip}
use Rattle.sixel_encoder.proofs.round_trip.DrawnHeight.{cropped_height-tokens}
use Rattle.sixel_encoder.proofs.round_trip.{Extent.first_fault-other, PenSteps.Follows}
use Rattle.sixel_encoder.proofs.round_trip.{PenSteps.Follows-marks, TextHistory.payload-read}
use Rattle.sixel_encoder.proofs.round_trip.TextPalette.{register-palette, Follows-palette}
use Rattle.sixel_encoder.proofs.round_trip.{TextPalette.pixel-palette, TextPixels.pixel-marks}
use Rattle.sixel_encoder.proofs.round_trip.{TextPixels.color_in, Tokens.{tokens, with_palette}}
use Rattle.sixel_encoder.proofs.JoinedLists.{joined-same}

-- a picture depends on its pixels alone
pub picture-same : (p q : ℕ → ℕ → List ℕ) (w h : ℕ)
    → ((column line : ℕ) → column < w → line < h → p column line ≡ q column line)
    → picture p w h ≡ picture q w h
unfolding picture
picture-same p q w h same = grind (arith, nat_tests, joined-same)

-- an origin at which a drawing's text can be read: enough registers, and the drawing's background
record IsOrigin (drawing : Drawing) (origin : Origin) : Type 0 where
  size : length origin.registers ≡ 256
  mode : mode_of origin.settings ≡ drawing.background_mode
  ground : background origin ≡ blank drawing.background_mode

-- below the drawing there is no entry
entry_at-below : (drawing : Drawing) (column line : ℕ) → IsWritable drawing → drawing.height ≤ line
    → entry_at drawing column line ≡ None
entry_at-below drawing column line is below = grind (arith, nat_tests, get_or_past, mul-le)

-- images with equal parts are equal
pub image-same : (a b : Image) → a.pixels ≡ b.pixels → a.width ≡ b.width → a.height ≡ b.height
    → a.aspect_ratio ≡ b.aspect_ratio → a.background_mode ≡ b.background_mode → a ≡ b
image-same a b pixels wide high shape mode = grind (arith, nat_tests)

-- ---- a new decoder with the text's settings

-- the first register is black
first_register : slice_index_or default_registers 0 [] ≡ 0 ∷ 0 ∷ 0 ∷ []
unfolding default_registers
first_register = get_or-map-range_with_len default_color 0 256 0 0 [] (omega arith) (omega arith)

-- there are 256 registers
length-default_registers : length default_registers ≡ 256
unfolding default_registers
length-default_registers = length-map-range_with_len default_color 0 256

module _ (drawing : Drawing) (definitions : List Definition) (marks : List Mark) where
  -- after the last mark
  Follows-tokens : (first : ℕ) (start : List (List ℕ)) → IsWritable drawing
      → Draws drawing definitions marks
      → Follows drawing first start (registers start (with_palette drawing definitions))
      (moved_by marks first_pen) (tokens drawing definitions marks)
  Follows-tokens first start is draws =
      Follows-marks _ is _ _ _ _ _ _ draws.allowed (Follows-palette _ first start definitions is)

  -- each pixel is that of the trip
  pixel-trip : (origin : Origin) (column line : ℕ) → IsWritable drawing
      → Draws drawing definitions marks → IsOrigin drawing origin → column < drawing.width
      → pixel origin (tokens drawing definitions marks) column line
      ≡ trip_pixel drawing (entry_at drawing column line)
  pixel-trip origin column line is draws from lc =
      let follows =
      Follows-palette drawing origin.pixel_limit.first_register origin.registers definitions is in
      let last : pixel origin (tokens drawing definitions marks) column line
      ≡ color_in (registers origin.registers (with_palette drawing definitions)) (background origin)
      (painted marks first_pen None column line) =
      grind (arith, nat_tests, follows, pixel-palette, pixel-marks) in
      grind (arith, nat_tests, register-palette, entry_at-below)

  -- the image of the tokens is the trip
  image-tokens : (origin : Origin) → IsWritable drawing → Draws drawing definitions marks
      → IsOrigin drawing origin → drawing.width ≤ origin.pixel_limit.columns
      → 6 * bands drawing.height ≤ origin.pixel_limit.rows
      → image_of origin (tokens drawing definitions marks) ≡ trip origin.raster_crop drawing
  image-tokens origin is draws from narrow low =
      let follows = Follows-tokens 0 origin.registers is draws in
      grind (arith, cropped_height-tokens, picture-same, pixel-trip)

  -- the payload is read as the trip
  pub payload-trip : (decoder : DecoderState) (rest : List ℕ) → IsWritable drawing
      → Draws drawing definitions marks → CanShow decoder drawing.width drawing.height
      → payload_image (origin_of decoder (drawing_settings drawing))
      (marks_payload drawing definitions marks ++ 27 ∷ rest) ≡ trip decoder.raster_crop drawing
  payload-trip decoder rest is draws can =
      let text = marks_payload drawing definitions marks ++ 27 ∷ rest in
      let whole = effective-off decoder.pixel_limit (history_of (front text)) can.strict in
      rw (whole, payload-read drawing definitions marks is draws rest) (image-tokens
      (origin_of decoder (drawing_settings drawing)) is draws
      (grind (arith, length-default_registers, first_register, can.registers, can.painted))
      can.columns can.rows)

  -- and leaves a register that is defined the color of its entry
  pub payload-register :
      (decoder : DecoderState) (rest : List ℕ) (register entry : ℕ) → IsWritable drawing
      → Draws drawing definitions marks → length decoder.registers ≡ 256
      → decoder.pixel_limit.lenient ≡ false
      → register_entry definitions None register ≡ Some entry
      → slice_index_or (payload_registers (origin_of decoder (drawing_settings drawing))
      (marks_payload drawing definitions marks ++ 27 ∷ rest)) register []
      ≡ map rounded (slice_index_or drawing.colors entry [])
  payload-register decoder rest register entry is draws size strict e =
      let text = marks_payload drawing definitions marks ++ 27 ∷ rest in
      let whole = effective-off decoder.pixel_limit (history_of (front text)) strict in
      let follows = Follows-tokens 0 decoder.registers is draws in
      rw (whole, payload-read drawing definitions marks is draws rest, follows.defined)
      (register-palette decoder.registers drawing definitions register entry is draws.defined size
      e)

  -- and has no fault within a limit that has room for it in whole bands
  pub payload-sound : (limit : Limit) (rest : List ℕ) → IsWritable drawing
      → Draws drawing definitions marks → drawing.width * banded drawing.height ≤ limit.pixels
      → payload_fault limit (marks_payload drawing definitions marks ++ 27 ∷ rest) ≡ None
  payload-sound limit rest is draws room =
      let fits = (Follows-tokens 0 [] is draws).fits in
      grind (arith, nat_tests, payload-read, fault-sound, first_fault-other, mul-le)
