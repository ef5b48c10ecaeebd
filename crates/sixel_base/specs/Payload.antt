-- What a payload means: the first fault of its tokens, or its image and the registers that it
-- leaves. While bytes still come, a command that could go on is open and counts for nothing yet.
-- The limits are this library's own.
use Rattle.std.specs.Prelude.{ℕ, Bool, ◌+◌, ◌*◌, nat_lt, ◌&&◌, ◌||◌, if◌then◌else◌, List, [], ◌∷◌}
use Rattle.std.specs.Prelude.{Option, is_none, min}
use Rattle.sixel_base.specs.{Bytes.{front, is_terminated}, Clip.clipped_width, Fault.Fault}
use Rattle.sixel_base.specs.History.{Sixel, Repeat, Raster, Color, History, history_of}
use Rattle.sixel_base.specs.{Lenient.{fault, effective}, Limits.Limit, Picture.picture, Place.width}
use Rattle.sixel_base.specs.{Place.{height, raster_height}, Settings.{mode_of, ratio_of}}
use Rattle.sixel_base.specs.Stroke.{Origin, pixel, ratio, registers}
use Rattle.sixel_base.specs.declared.settings.BackgroundMode.{BackgroundMode}
use Rattle.sixel_base.specs.declared.settings.PixelAspectRatio.{PixelAspectRatio}
pub use Rattle.sixel_base.specs.Limits.{area_limit}
pub use Rattle.sixel_base.specs.TokenFaults.{area_fault, extent_fault, fault_of, first_fault}

-- the tokens but a newest one that could go on
abbrev pub closed : History → History
closed (Repeat text ∷ older) = older
closed (Raster text ∷ older) = older
closed (Color text ∷ older) = older
closed history = history

-- the tokens that no further byte can change
abbrev pub settled : List ℕ → History
settled bytes =
    if is_terminated bytes then history_of (front bytes) else closed (history_of (front bytes))

-- what is wrong with bytes that have been fed
abbrev pub fed_fault : Limit → List ℕ → Option Fault
fed_fault limit bytes = fault limit (settled bytes)

-- what is wrong with a payload that has ended
abbrev pub payload_fault : Limit → List ℕ → Option Fault
payload_fault limit bytes = fault limit (history_of (front bytes))

-- the tokens of it that take effect
abbrev pub tokens : Limit → List ℕ → History
tokens limit bytes = effective limit (history_of (front bytes))

-- and those of bytes that have been fed
abbrev pub settled_tokens : Limit → List ℕ → History
settled_tokens limit bytes = effective limit (settled bytes)

-- an image apart from where its bytes lie
pub record Image : Type 0 where
  pub pixels : List ℕ
  pub width : ℕ
  pub height : ℕ
  pub aspect_ratio : PixelAspectRatio
  pub background_mode : BackgroundMode

-- how high an image is without a clip: with crop as high as its last raster attributes say that
-- name a height, else as its extent
abbrev pub cropped_height : Bool → History → ℕ
cropped_height raster_crop history =
    if raster_crop && nat_lt 0 (raster_height history) then raster_height history
    else height history

-- how high an image is inside the clip
abbrev pub image_height : Limit → Bool → History → ℕ
image_height limit raster_crop history = min (cropped_height raster_crop history) limit.rows

-- the image of a history: its picture, restricted to the clip
abbrev pub image_of : Origin → History → Image
image_of origin history = record {
  pixels =
      picture (pixel origin history) (clipped_width origin.pixel_limit history)
      (image_height origin.pixel_limit origin.raster_crop history);
  width = clipped_width origin.pixel_limit history;
  height = image_height origin.pixel_limit origin.raster_crop history;
  aspect_ratio = ratio (ratio_of origin.settings) history;
  background_mode = mode_of origin.settings;
}

-- the image of a payload that has ended
abbrev pub payload_image : Origin → List ℕ → Image
payload_image origin bytes = image_of origin (tokens origin.pixel_limit bytes)

-- how many pixels its extent has
abbrev pub payload_area : Limit → List ℕ → ℕ
payload_area limit bytes = width (tokens limit bytes) * height (tokens limit bytes)

-- the registers after it
abbrev pub payload_registers : Origin → List ℕ → List (List ℕ)
payload_registers origin bytes = registers origin.registers (tokens origin.pixel_limit bytes)

-- how many sixels and raster attributes there are, for which alone a decoder may want memory before
-- an image ends
abbrev pub growths : History → ℕ
growths [] = 0
growths (Sixel _ ∷ older) = growths older + 1
growths (Raster _ ∷ older) = growths older + 1
growths (_ ∷ older) = growths older

-- whether decoding a payload may run out of memory: where it has an image, or a closed command may
-- have allocated
abbrev pub payload_wants : Limit → List ℕ → Bool
payload_wants limit bytes =
    is_none (payload_fault limit bytes) || nat_lt 0 (growths (settled bytes))
