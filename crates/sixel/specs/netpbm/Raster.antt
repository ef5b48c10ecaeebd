-- The pixels of an image, four bytes each: red, green, blue and alpha. By netpbm's pages pam(5),
-- ppm(5) and pgm(5) a sample has one byte if the greatest one is below 256, else two, the more
-- significant one first. Samples are scaled to bytes and rounded half up. Those above the greatest
-- one count as it.
use Rattle.std.specs.Prelude.{ℕ, ◌+◌, ◌*◌, ◌/◌, ◌==◌, min, nat_lt, if◌then◌else◌, List, [], ◌∷◌}
use Rattle.std.specs.Prelude.{drop, slice_index, take}
use Rattle.sixel_base.specs.Picture.{joined}
use Rattle.sixel.specs.declared.netpbm.header.Header.{Header}

-- the bytes of a pixel
abbrev pub pixel_len : Header → ℕ
pixel_len header = if nat_lt header.maxval 256 then header.depth else 2 * header.depth

-- the bytes of all pixels
abbrev pub raster_len : Header → ℕ
raster_len header = header.width * header.height * pixel_len header

-- a sample of the pixel of these bytes
abbrev pub sample : ℕ → List ℕ → ℕ → ℕ
sample maxval pixel index =
    if nat_lt maxval 256 then slice_index pixel index
    else 256 * slice_index pixel (2 * index) + slice_index pixel (2 * index + 1)

-- a sample scaled to a byte
abbrev pub level : ℕ → List ℕ → ℕ → ℕ
level maxval pixel index = (255 * min (sample maxval pixel index) maxval + maxval / 2) / maxval

-- Red, green, blue and alpha of the pixel of these bytes. One or two samples are gray, and a last
-- one of two or four is alpha.
abbrev pub rgba : Header → List ℕ → List ℕ
rgba header pixel =
    let value = level header.maxval pixel in
    if header.depth == 1 then value 0 ∷ value 0 ∷ value 0 ∷ 255 ∷ []
    else (if header.depth == 2 then value 0 ∷ value 0 ∷ value 0 ∷ value 1 ∷ []
    else (if header.depth == 3 then value 0 ∷ value 1 ∷ value 2 ∷ 255 ∷ []
    else value 0 ∷ value 1 ∷ value 2 ∷ value 3 ∷ []))

-- the bytes of a pixel in those of all
abbrev pub pixel_at : Header → List ℕ → ℕ → List ℕ
pixel_at header raster pixel = take (pixel_len header) (drop (pixel * pixel_len header) raster)

-- the first pixels, row by row
abbrev pub first_pixels : Header → List ℕ → ℕ → List ℕ
first_pixels header raster = joined (λ pixel. rgba header (pixel_at header raster pixel))

-- all pixels
abbrev pub pixels_of : Header → List ℕ → List ℕ
pixels_of header raster = first_pixels header raster (header.width * header.height)
