-- Which pixels bytes are: four bytes per pixel, red, green, blue and alpha, as in an image of RGBA.
use Rattle.std.specs.Prelude.{ℕ, List, [], ◌∷◌}

-- the pixels that these bytes are, from the left
abbrev pub pixels_of : List ℕ → List (List ℕ)
pixels_of (red ∷ green ∷ blue ∷ alpha ∷ bytes) =
    (red ∷ green ∷ blue ∷ alpha ∷ []) ∷ pixels_of bytes
pixels_of _ = []
