-- The grays of a picture, which are mapped to a palette of grays. No gray repays the error of a
-- hue. The brightness is the luma of ITU-R BT.601, in 256ths.
use Rattle.std.specs.Prelude.{ℕ, zero, suc, ◌+◌, ◌*◌, ◌/◌, ◌==◌, ◌&&◌, Bool, true, false, List, []}
use Rattle.std.specs.Prelude.{◌∷◌, length, if◌then◌else◌, slice_index, slice_index_or}
use Rattle.sixel_base.specs.Picture.{joined}
use Rattle.sixel_palette.specs.Palette.{color_at}
use Rattle.sixel_palette.specs.declared.{dither.Dither.Dither, dither.Dither.TheVariants.Off}
use Rattle.sixel_palette.specs.declared.{mapping.Mapping.Mapping, mapping.Tolerance.Tolerance}
use Rattle.sixel_palette.specs.declared.mapping.Tolerance.TheVariants.{Squared}

-- the channels of a color are equal
abbrev pub is_gray : List ℕ → Bool
is_gray c = (slice_index c 0 == slice_index c 1) && (slice_index c 1 == slice_index c 2)

-- so are those of each of the first n colors
unfoldable pub are_gray : List (List ℕ) → ℕ → Bool
are_gray colors zero = true
are_gray colors (suc n) = are_gray colors n && is_gray (slice_index_or colors n [])

-- the brightness of a color, rounded down
abbrev pub brightness : List ℕ → ℕ
brightness c = (77 * slice_index c 0 + 150 * slice_index c 1 + 29 * slice_index c 2) / 256

-- a color in gray, and the bytes of a pixel
abbrev pub gray_color : List ℕ → List ℕ
gray_color c = brightness c ∷ brightness c ∷ brightness c ∷ []

abbrev pub gray_pixel : List ℕ → ℕ → List ℕ
gray_pixel pixels pixel =
    brightness (color_at pixels pixel) ∷ brightness (color_at pixels pixel)
    ∷ brightness (color_at pixels pixel) ∷ slice_index pixels (4 * pixel + 3) ∷ []

-- an image in gray
abbrev pub gray_pixels : List ℕ → List ℕ
gray_pixels pixels = joined (gray_pixel pixels) (length pixels / 4)

-- the grays of an image are mapped to a palette of grays, unless it is undithered with a tolerance
-- other than the automatic one
abbrev pub maps_grays : Dither → Tolerance → List (List ℕ) → Bool
maps_grays Off (Squared tolerance) colors = false
maps_grays dither tolerance colors = are_gray colors (length colors)

-- the pixels that are mapped
abbrev pub source_pixels : Mapping → List (List ℕ) → List ℕ → List ℕ
source_pixels mapping colors pixels =
    if maps_grays mapping.dither mapping.tolerance colors then gray_pixels pixels else pixels
