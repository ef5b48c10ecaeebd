-- The image of a payload where a host asks for a transparent background: a pixel that no sixel
-- covers is transparent whatever P2 says. The wish is this library's own. Which pixels a sixel
-- covers, by DEC's manual, is in Picture and Place of sixel_base.
use Rattle.std.specs.Prelude.{ℕ, ◌≡◌, ◌+◌, Bool, false, ◌||◌, if◌then◌else◌, List, [], ◌∷◌}
use Rattle.sixel_base.specs.{Decoder.origin_of, History.{Sixel, History}, OneShot.{Found, Payload}}
use Rattle.sixel_base.specs.{OneShot.NoPayload, Payload.{Image, tokens}, Picture.{covers, picture}}
use Rattle.sixel_base.specs.{Place.{across, down, span}, Stroke.{Origin, pixel}}
use Rattle.sixel_base.specs.declared.state.DecoderState.{DecoderState}

-- whether a sixel covers the pixel
abbrev pub is_drawn : History → ℕ → ℕ → Bool
is_drawn [] column row = false
is_drawn (Sixel bits ∷ older) column row =
    covers (across older) (across older + span older) (down older) bits column row
    || is_drawn older column row
is_drawn (_ ∷ older) column row = is_drawn older column row

-- the pixel of the picture if it is drawn, else a transparent one
abbrev pub drawn_pixel : Origin → History → ℕ → ℕ → List ℕ
drawn_pixel origin history column row =
    if is_drawn history column row then pixel origin history column row
    else 0 ∷ 0 ∷ 0 ∷ 0 ∷ []

-- the same for a payload, and no byte if there is none
abbrev pub drawn_pixel_of : DecoderState → Found → ℕ → ℕ → List ℕ
drawn_pixel_of decoder (Payload settings payload) =
    drawn_pixel (origin_of decoder settings) (tokens decoder.pixel_limit payload)
drawn_pixel_of decoder (NoPayload fault) = λ column row. []

-- The second image has these pixels, and all else of the first one.
pub record IsCleared (shown : ℕ → ℕ → List ℕ) (image clear : Image) : Type 0 where
  pub pixels : clear.pixels ≡ picture shown image.width image.height
  pub width : clear.width ≡ image.width
  pub height : clear.height ≡ image.height
  pub aspect_ratio : clear.aspect_ratio ≡ image.aspect_ratio
  pub background_mode : clear.background_mode ≡ image.background_mode
