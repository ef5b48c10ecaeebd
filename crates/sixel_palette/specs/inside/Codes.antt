-- Colors as codes of 24 bits: red is the highest byte, blue the lowest.
use Rattle.std.specs.{List.Sorted.IsStrictlyIncreasing, Prelude.{◌≡◌, ℕ, ◌+◌, ◌*◌, ◌/◌, ◌%◌, ◌<◌}}
use Rattle.std.specs.Prelude.{List, [], ◌∷◌, length, All, Contains, slice_index}
use Rattle.sixel_palette.specs.Palette.{rank, color_at, IsOpaque, IsShown}

-- how many codes there are
abbrev pub code_count : ℕ
code_count = 16777216

-- each number is a code
abbrev pub AreColorCodes : List ℕ → Type 0
AreColorCodes codes = All (λ code. code < code_count) codes

-- the color of a code
unfoldable pub color_of : ℕ → List ℕ
color_of code = code / 65536 ∷ code / 256 % 256 ∷ code % 256 ∷ []

-- the word is that of a pixel: 256 times the code of its color and its alpha
pub record IsPixelWord (pixels : List ℕ) (pixel word : ℕ) : Type 0 where
  pub code : word / 256 ≡ rank (color_at pixels pixel)
  pub color : color_of (word / 256) ≡ color_at pixels pixel
  pub alpha : word % 256 ≡ slice_index pixels (4 * pixel + 3)

-- the words are those of four pixels, from this one on
abbrev pub AreFourWords : List ℕ → ℕ → List ℕ → Type 0
AreFourWords pixels pixel words =
    (k : ℕ) → k < 4 → IsPixelWord pixels (pixel + k) (slice_index words k)

-- some code of the list is that of the color
abbrev pub IsListed : List ℕ → List ℕ → Type 0
IsListed codes c = (k : ℕ) × (k < length codes) × (color_of (slice_index codes k) ≡ c)

-- an opaque pixel among the first ones has the code
abbrev pub HasPixel : List ℕ → ℕ → ℕ → Type 0
HasPixel pixels count code =
    (pixel : ℕ) × (pixel < count) × IsOpaque pixels pixel × (rank (color_at pixels pixel) ≡ code)

-- the codes are those of the opaque pixels among the first ones
pub record AreCodes (pixels : List ℕ) (count : ℕ) (codes : List ℕ) : Type 0 where
  pub all : All (HasPixel pixels count) codes
  pub complete : (pixel : ℕ) → pixel < count → IsOpaque pixels pixel
      → Contains codes (rank (color_at pixels pixel))

-- the codes are those of the colors of an image's opaque pixels, in order
pub record AreShownCodes (pixels codes : List ℕ) : Type 0 where
  pub ascending : IsStrictlyIncreasing codes
  pub small : AreColorCodes codes
  pub shown : (c : List ℕ) → IsShown pixels c → IsListed codes c
  pub listed : (c : List ℕ) → IsListed codes c → IsShown pixels c
