-- The formats of pixels that C encodes: how the bytes of a pixel become red, green, blue and alpha.
use Rattle.std.specs.Prelude.{ℕ, ◌+◌, ◌*◌, ◌==◌, Bool, true, false, if◌then◌else◌, List, [], ◌∷◌}
use Rattle.std.specs.Prelude.{Option, Some, None, slice_index, slice_range}
use Rattle.sixel_base.specs.Picture.{joined}
use Rattle.icysixel.specs.declared.format.Format.{Format}
use Rattle.icysixel.specs.declared.format.Format.TheVariants.{Rgba, Bgra, Rgb, Bgr, Indexed}

-- whether the bytes are those of an image
abbrev pub is_rgba : Format → Bool
is_rgba Rgba = true
is_rgba Bgra = false
is_rgba Rgb = false
is_rgba Bgr = false
is_rgba (Indexed transparent) = false

-- the number of bytes of a pixel
abbrev pub pixel_len : Format → ℕ
pixel_len Rgba = 4
pixel_len Bgra = 4
pixel_len Rgb = 3
pixel_len Bgr = 3
pixel_len (Indexed transparent) = 1

-- the alpha of a palette index, of which one may be transparent
abbrev pub index_alpha : Option ℕ → ℕ → ℕ
index_alpha None index = 255
index_alpha (Some transparent) index = if index == transparent then 0 else 255

-- red, green, blue and alpha of the pixel of these bytes; the color of an index has no effect
abbrev pub rgba : Format → List ℕ → List ℕ
rgba Rgba pixel = pixel
rgba Bgra pixel =
    slice_index pixel 2 ∷ slice_index pixel 1 ∷ slice_index pixel 0 ∷ slice_index pixel 3 ∷ []
rgba Rgb pixel = slice_index pixel 0 ∷ slice_index pixel 1 ∷ slice_index pixel 2 ∷ 255 ∷ []
rgba Bgr pixel = slice_index pixel 2 ∷ slice_index pixel 1 ∷ slice_index pixel 0 ∷ 255 ∷ []
rgba (Indexed transparent) pixel =
    0 ∷ 0 ∷ 0 ∷ index_alpha transparent (slice_index pixel 0) ∷ []

-- the first pixels of these bytes, in RGBA
abbrev pub rgba_pixels : Format → List ℕ → ℕ → List ℕ
rgba_pixels format bytes count =
    joined (λ pixel. rgba format (slice_range bytes (pixel * pixel_len format)
    (pixel * pixel_len format + pixel_len format))) count
