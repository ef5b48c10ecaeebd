-- The pattern of ordered dithering, which moves the colors of pixels: that of Ø. Kolås, "a dither"
-- (2013).
use Rattle.std.specs.Prelude.{ℕ, ◌+◌, ◌-◌, ◌*◌, ◌/◌, ◌%◌, nat_lt, min, if◌then◌else◌, List, [], ◌∷◌}
use Rattle.std.specs.Prelude.{◌++◌, length, slice_index}
use Rattle.sixel_base.specs.Picture.{joined}
use Rattle.sixel_palette.specs.{Gray.are_gray, Palette.color_at, Refined.pixel_error}

-- a number from 0 to 255 for each place, in the pattern shifted by some columns
abbrev pub threshold : ℕ → ℕ → ℕ → ℕ
threshold column row shift = (column + 237 * row + shift) * 119 % 256

-- by how many columns the pattern of each channel is shifted: not in a palette of grays, in which
-- the gray of a pixel stays gray
abbrev pub shift_of : List (List ℕ) → ℕ
shift_of colors = if are_gray colors (length colors) then 0 else 112

-- A channel moved by the threshold's part of the amplitude, from half of it down to half of it up:
-- by (2 * threshold - 255) * amplitude / 512, rounded to a whole number, within a byte. The 65536
-- and the 128 keep the numbers natural, and the 256 rounds.
abbrev pub moved_channel : ℕ → ℕ → ℕ → ℕ
moved_channel amplitude threshold value =
    min 255 (value + (2 * threshold * amplitude + 256 + (65536 - 255 * amplitude)) / 512 - 128)

-- a channel of a pixel, moved
abbrev pub moved_at : ℕ → ℕ → ℕ → ℕ → ℕ → ℕ
moved_at amplitude width pixel shift value =
    moved_channel amplitude (threshold (pixel % width) (pixel / width) shift) value

-- its color
abbrev pub moved_color : ℕ → ℕ → ℕ → ℕ → List ℕ → List ℕ
moved_color amplitude shift width pixel c =
    moved_at amplitude width pixel 0 (slice_index c 0)
    ∷ moved_at amplitude width pixel shift (slice_index c 1)
    ∷ moved_at amplitude width pixel (2 * shift) (slice_index c 2) ∷ []

-- The pattern of a palette: how many levels apart it moves a channel at most, and the squared
-- distance of a color to its nearest entry below which the color stays.
pub record Pattern : Type 0 where
  pub colors : List (List ℕ)
  pub amplitude : ℕ
  pub limit : ℕ

-- the amplitude at a pixel: 0 moves nothing
abbrev pub amplitude_at : Pattern → List ℕ → ℕ → ℕ
amplitude_at pattern pixels pixel =
    if nat_lt (pixel_error pattern.colors pixels pixel) pattern.limit then 0
    else pattern.amplitude

-- the bytes of a pixel, whose alpha stays
abbrev pub moved_pixel : Pattern → ℕ → List ℕ → ℕ → List ℕ
moved_pixel pattern width pixels pixel =
    moved_color (amplitude_at pattern pixels pixel) (shift_of pattern.colors) width pixel
    (color_at pixels pixel)
    ++ (slice_index pixels (4 * pixel + 3) ∷ [])

-- the pixels of an image whose colors are moved
abbrev pub moved_pixels : Pattern → ℕ → List ℕ → List ℕ
moved_pixels pattern width pixels =
    joined (moved_pixel pattern width pixels) (length pixels / 4)
