-- How the program writes an image, in two forms. The program's own is a line `image W H P1 P2` of
-- its sizes, its pixel shape and its background, the raw pixels, a line end; P1 and P2 are the
-- parameters that a DCS sequence gives a shape and a background. The other is PAM, netpbm's format
-- for raw channels: lines that name the sizes, from `P7` to `ENDHDR`, and the pixels.
use Rattle.std.specs.Prelude.{ℕ, List, [], ◌∷◌, ◌++◌, codes, decimal}
use Rattle.sixel_base.specs.{Payload.Image, Settings.{p1_of, p2_of}}

-- the byte that ends a line
abbrev pub line_end : List ℕ
line_end = 10 ∷ []

-- a space and a number
abbrev pub spaced : ℕ → List ℕ
spaced number = 32 ∷ decimal number

-- the line that says how to read the pixels after it
abbrev pub image_line : Image → List ℕ
image_line image =
    codes "image" ++ spaced image.width ++ spaced image.height ++ spaced (p1_of image.aspect_ratio)
    ++ spaced (p2_of image.background_mode) ++ line_end

-- an image as it is written
abbrev pub image_form : Image → List ℕ
image_form image = image_line image ++ image.pixels ++ line_end

-- these lines, each with its end
abbrev pub lines : List (List ℕ) → List ℕ
lines [] = []
lines (line ∷ rest) = line ++ (line_end ++ lines rest)

-- the header of a PAM file, whose pixels have four channels of one byte
abbrev pub pam_header : Image → List ℕ
pam_header image =
    lines (
    codes "P7"
    ∷ (codes "WIDTH" ++ spaced image.width)
    ∷ (codes "HEIGHT" ++ spaced image.height)
    ∷ codes "DEPTH 4"
    ∷ codes "MAXVAL 255"
    ∷ codes "TUPLTYPE RGB_ALPHA"
    ∷ codes "ENDHDR"
    ∷ []
    )

-- an image as a PAM file
abbrev pub pam_form : Image → List ℕ
pam_form image = pam_header image ++ image.pixels
