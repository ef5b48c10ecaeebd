-- What the text of an image is: the text of its drawing in the palette of the colors that it shows.
-- A pixel is shown if its alpha is at least 128; the color and the alpha of any other pixel are
-- part of nothing here. And which images are not encoded.
use Rattle.std.specs.{List.range_with_len, Option.option_or, Prelude.{◌≡◌, ℕ, ◌/◌, ◌<◌, ◌+◌, ◌*◌}}
use Rattle.std.specs.Prelude.{nat_le, if◌then◌else◌, List, length, map, slice_index, slice_index_or}
use Rattle.std.specs.Prelude.{Option, Some, None}
use Rattle.sixel_base.specs.{Payload.Image, Size.{encode_fault, buffer_fault}}
use Rattle.sixel_base.specs.declared.error.SixelError.{SixelError}
use Rattle.sixel_base.specs.declared.settings.BackgroundMode.{BackgroundMode}
use Rattle.sixel_base.specs.declared.settings.BackgroundMode.TheVariants.{Transparent}
use Rattle.sixel_base.specs.declared.settings.PixelAspectRatio.{PixelAspectRatio}
use Rattle.sixel_base.specs.declared.settings.PixelAspectRatio.TheVariants.{Square}
use Rattle.sixel_palette.specs.Palette.{color_at, IsOpaque, IsPalette, IsNearest}
use Rattle.sixel_encoder.specs.{RunTokens.{Spells, IsShortest, row_tokens}, Text.{Drawing, row_of}}
use Rattle.sixel_encoder.specs.{Text.text_of, declared.source.Source.Source}

-- an image of square pixels on a transparent background
abbrev pub square_value : List ℕ → ℕ → ℕ → Image
square_value pixels width height = record {
  pixels = pixels;
  width = width;
  height = height;
  aspect_ratio = Square;
  background_mode = Transparent;
}

-- the image that is encoded, apart from where its pixels lie
abbrev pub source_value : Source → Image
source_value source = record {
  pixels = source.pixels.now;
  width = source.width;
  height = source.height;
  aspect_ratio = source.aspect_ratio;
  background_mode = source.background_mode;
}

-- what is wrong with an image that is to be encoded: its sizes, then how many bytes it has
abbrev pub image_fault : Image → Option SixelError
image_fault image =
    option_or (encode_fault image.width image.height)
    (buffer_fault image.width image.height (length image.pixels))

-- The palette is that of the colors shown; a shown pixel has its nearest entry, the first of those,
-- and a hidden one has none.
pub record IsDrawing (image : Image) (max_colors : ℕ) (drawing : Drawing) : Type 0 where
  pub width : drawing.width ≡ image.width
  pub height : drawing.height ≡ image.height
  pub aspect_ratio : drawing.aspect_ratio ≡ image.aspect_ratio
  pub background_mode : drawing.background_mode ≡ image.background_mode
  pub palette : IsPalette image.pixels max_colors drawing.colors
  pub size : length drawing.entries ≡ length image.pixels / 4
  pub shown : (pixel : ℕ) → pixel < length image.pixels / 4 → IsOpaque image.pixels pixel
      → (entry : ℕ) × (slice_index_or drawing.entries pixel None ≡ Some entry)
      × IsNearest drawing.colors (color_at image.pixels pixel) entry
  pub hidden : (pixel : ℕ) → pixel < length image.pixels / 4
      → slice_index image.pixels (4 * pixel + 3) < 128
      → slice_index_or drawing.entries pixel None ≡ None

-- the bytes are the text of the image
abbrev pub IsText : Image → ℕ → List ℕ → Type 0
IsText image max_colors bytes =
    (drawing : Drawing) × IsDrawing image max_colors drawing × (bytes ≡ text_of drawing)

-- each row of an entry in a band is spelled by its tokens, in the fewest bytes
abbrev pub AreShortest : Drawing → Type 0
AreShortest drawing =
    (band entry : ℕ)
    → Spells (row_tokens (row_of drawing band entry)) (row_of drawing band entry)
    × IsShortest (row_tokens (row_of drawing band entry)) (row_of drawing band entry)

-- an image without what is hidden: each pixel's color if it is shown
pub record ShownImage : Type 0 where
  pub width : ℕ
  pub height : ℕ
  pub aspect_ratio : PixelAspectRatio
  pub background_mode : BackgroundMode
  pub colors : List (Option (List ℕ))

abbrev pub shown_color : List ℕ → ℕ → Option (List ℕ)
shown_color pixels pixel =
    if nat_le 128 (slice_index pixels (4 * pixel + 3)) then Some (color_at pixels pixel) else None

abbrev pub shown_image : Image → ShownImage
shown_image image = record {
  width = image.width;
  height = image.height;
  aspect_ratio = image.aspect_ratio;
  background_mode = image.background_mode;
  colors = map (shown_color image.pixels) (range_with_len 0 (length image.pixels / 4));
}
