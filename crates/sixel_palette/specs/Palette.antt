-- The colors of an image's opaque pixels, their distances, the palette of an image and its
-- witnesses. The palette is a farthest-first traversal (Gonzalez), a 2-approximation of the
-- k-center problem. The order of ties is this library's.
use Rattle.std.specs.{Int.abs_diff, Prelude.{◌≡◌, ◌⊎◌, ℕ, ◌+◌, ◌*◌, ◌/◌, ◌<◌, ◌≤◌, min, max, List}}
use Rattle.std.specs.Prelude.{[], ◌∷◌, ◌++◌, length, take, All, AllPairs, Contains, slice_index}
use Rattle.std.specs.Prelude.{slice_index_or, nat_le, if◌then◌else◌, Option, Some, None}

-- a color is a list of three channels: red, green, blue. This is its rank in the order by red,
-- then green, then blue, for channels that are bytes
unfoldable pub rank : List ℕ → ℕ
rank c = 65536 * slice_index c 0 + 256 * slice_index c 1 + slice_index c 2

-- the square of the difference of two colors in one channel
unfoldable pub square_gap : List ℕ → List ℕ → ℕ → ℕ
square_gap a b channel =
    abs_diff (slice_index a channel) (slice_index b channel)
    * abs_diff (slice_index a channel) (slice_index b channel)

-- the squared distance of two colors
unfoldable pub distance : List ℕ → List ℕ → ℕ
distance a b = square_gap a b 0 + square_gap a b 1 + square_gap a b 2

-- the squared distance while there is no entry: one more than the greatest of two colors whose
-- channels are bytes, which is three times the square of 255
abbrev pub no_entry : ℕ
no_entry = 195076

-- the squared distance of a color to the nearest entry
unfoldable pub nearest : List (List ℕ) → List ℕ → ℕ
nearest [] c = no_entry
nearest (p ∷ ps) c = min (distance p c) (nearest ps c)

-- the color of a pixel, where each pixel has four bytes
abbrev pub color_at : List ℕ → ℕ → List ℕ
color_at pixels pixel =
    slice_index pixels (4 * pixel) ∷ slice_index pixels (4 * pixel + 1)
    ∷ slice_index pixels (4 * pixel + 2) ∷ []

-- the pixel is opaque: its alpha is at least 128
abbrev pub IsOpaque : List ℕ → ℕ → Type 0
IsOpaque pixels pixel = 128 ≤ slice_index pixels (4 * pixel + 3)

-- some opaque pixel has the color
abbrev pub IsShown : List ℕ → List ℕ → Type 0
IsShown pixels c =
    (pixel : ℕ) × (pixel < length pixels / 4) × IsOpaque pixels pixel × (color_at pixels pixel ≡ c)

-- the list has each member of a set once, in order
pub record AreMembers (Member : List ℕ → Type 0) (colors : List (List ℕ)) : Type 0 where
  pub all : All Member colors
  pub complete : (c : List ℕ) → Member c → Contains colors c
  pub ascending : AllPairs (λ a b. rank a < rank b) colors

-- the set has this many members
abbrev pub HasSize : (List ℕ → Type 0) → ℕ → Type 0
HasSize Member n = (colors : List (List ℕ)) × AreMembers Member colors × (length colors ≡ n)

-- the color is the member that is farthest from its nearest entry, the least in order of those
pub record IsFarthest (Member : List ℕ → Type 0) (entries : List (List ℕ)) (c : List ℕ)
    : Type 0 where
  pub member : Member c
  pub farthest : (d : List ℕ) → Member d → nearest entries d ≤ nearest entries c
  pub least : (d : List ℕ) → Member d → nearest entries d ≡ nearest entries c → rank c ≤ rank d

-- each entry is the farthest member from the entries before it; so the first is the least member
abbrev pub IsFarthestFirst : (List ℕ → Type 0) → List (List ℕ) → Type 0
IsFarthestFirst Member entries =
    (i : ℕ) (d : List ℕ) → i < length entries
    → IsFarthest Member (take i entries) (slice_index_or entries i d)

-- how many entries a palette has at most
abbrev pub palette_room : ℕ → ℕ
palette_room max_colors = max 2 (min max_colors 256)

-- the palette of an image: farthest first, with as many entries as max_colors and its colors allow
pub record IsPalette (pixels : List ℕ) (max_colors : ℕ) (entries : List (List ℕ)) : Type 0 where
  pub order : IsFarthestFirst (IsShown pixels) entries
  pub size : (n : ℕ) × HasSize (IsShown pixels) n
      × (length entries ≡ min (palette_room max_colors) n)

-- the palette index of the entry nearest to the color, the first of those
pub record IsNearest (entries : List (List ℕ)) (c : List ℕ) (i : ℕ) : Type 0 where
  pub entry : i < length entries
  pub least : (j : ℕ) → j < length entries
      → distance (slice_index_or entries i []) c ≤ distance (slice_index_or entries j []) c
  pub first : (j : ℕ) → j < i
      → distance (slice_index_or entries i []) c < distance (slice_index_or entries j []) c

-- the entry of a pixel: its index, if it is opaque
abbrev pub entry_of : List ℕ → List ℕ → ℕ → Option ℕ
entry_of pixels indices pixel =
    if nat_le 128 (slice_index pixels (4 * pixel + 3)) then Some (slice_index indices pixel)
    else None

-- the squared distance of an entry to a color
abbrev pub entry_distance : List (List ℕ) → List ℕ → ℕ → ℕ
entry_distance colors c entry = distance (slice_index_or colors entry []) c

-- one palette index a pixel: that of the nearest entry for an opaque pixel, 0 for a transparent one
pub record AreIndices (pixels : List ℕ) (entries : List (List ℕ)) (indices : List ℕ) : Type 0 where
  pub one_each : length indices ≡ length pixels / 4
  pub opaque : (pixel : ℕ) → pixel < length pixels / 4 → IsOpaque pixels pixel
      → IsNearest entries (color_at pixels pixel) (slice_index indices pixel)
  pub hidden : (pixel : ℕ) → pixel < length pixels / 4 → slice_index pixels (4 * pixel + 3) < 128
      → slice_index indices pixel ≡ 0

-- the number is the greatest distance of a member to its nearest entry, 0 if there is no member
pub record IsError (Member : List ℕ → Type 0) (entries : List (List ℕ)) (error : ℕ) : Type 0 where
  pub bound : (c : List ℕ) → Member c → nearest entries c ≤ error
  pub reached : (error ≡ 0) ⊎ ((c : List ℕ) × Member c × (nearest entries c ≡ error))

-- where the set has more members than there are entries, the entries and then the farthest member;
-- otherwise none
pub record AreWitnesses (Member : List ℕ → Type 0) (entries witnesses : List (List ℕ))
    : Type 0 where
  pub some : (n : ℕ) → HasSize Member n → length entries < n
      → (c : List ℕ) × IsFarthest Member entries c × (witnesses ≡ entries ++ c ∷ [])
  pub none : (n : ℕ) → HasSize Member n → n ≤ length entries → witnesses ≡ []
