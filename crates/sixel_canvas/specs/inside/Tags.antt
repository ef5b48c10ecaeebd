-- What a tag is: the color of a tile of 128 columns of a row, over what is stored there. The rule
-- is this library's own.
use Rattle.std.specs.Prelude.{ℕ, Bool, nat_lt, if◌then◌else◌, List, [], ◌∷◌, slice_index}

-- no tag: nothing that can be seen
abbrev pub no_tag : List ℕ
no_tag = 0 ∷ 0 ∷ 0 ∷ 0 ∷ []

-- whether this is a tag: a color that is not wholly transparent
abbrev pub is_tag : List ℕ → Bool
is_tag tag = nat_lt 0 (slice_index tag 3)

-- a pixel with this tag over it
abbrev pub under : List ℕ → List ℕ → List ℕ
under tag pixel = if is_tag tag then tag else pixel
