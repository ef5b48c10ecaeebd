-- Where the images of C end: the height that is set, and an image that ends there. The numbers are
-- this library's own, and include/icysixel.h names them.
use Rattle.std.specs.Prelude.{ℕ, ◌≡◌, ◌≢◌, ◌==◌, if◌then◌else◌, Bool, Option, Some, None, Result}
use Rattle.std.specs.Prelude.{MatchResult, nat_le}
use Rattle.sixel_base.specs.declared.error.SixelError.{SixelError}
use Rattle.icy_sixel.specs.ReceivedImages.{IsCropped}
use Rattle.icy_sixel.specs.declared.receiver.received_image.Height.{Height}
use Rattle.icy_sixel.specs.declared.receiver.received_image.Height.TheVariants.{Bands, Raster}
use Rattle.icy_sixel.specs.declared.receiver.received_image.Height.TheVariants.{Drawn}
use Rattle.icy_sixel.specs.declared.receiver.received_image.ReceivedImage.{ReceivedImage}
use Rattle.icysixel.specs.{Code.IsCodeOf, Shape.shape_of, declared.shape.Shape.Shape}

-- whether the header names a height
abbrev pub is_height : ℕ → Bool
is_height number = nat_le number 2

-- 0 is the end of the last band, 1 the height in raster attributes, and 2 that height or the last
-- row with a set pixel
abbrev pub height_of : ℕ → Height
height_of number = if number == 0 then Bands else if number == 1 then Raster else Drawn

abbrev pub number_of : Height → ℕ
number_of Bands = 0
number_of Raster = 1
number_of Drawn = 2

-- The stored image is this one, ended at the height that is set, and its properties are reported.
pub record IsEnded (height : Height) (is_complete : Bool) (whole : ReceivedImage)
    (stored : Option ReceivedImage) (now : Shape) : Type 0 where
  pub image : ReceivedImage
  pub is_stored : stored ≡ Some image
  pub is_cropped : IsCropped whole image height
  pub shape : now ≡ shape_of image is_complete

-- An image is stored with code 0. Any other code is that of the error, which stores none.
abbrev pub IsStored : Height → Bool → Result ReceivedImage SixelError → Option ReceivedImage
    → Shape → ℕ → Type 0
IsStored height is_complete result stored now code =
    MatchResult result
    (λ whole. (code ≡ 0) × IsEnded height is_complete whole stored now)
    (λ error. (code ≢ 0) × IsCodeOf code error × (stored ≡ None))
