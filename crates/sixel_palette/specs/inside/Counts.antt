-- The distinct colors of an image's opaque pixels, with the number of pixels that have each.
use Rattle.std.specs.Prelude.{◌≡◌, ℕ, ◌*◌, ◌/◌, ◌%◌, ◌<◌, ◌≤◌, List, length, slice_index}
use Rattle.sixel_palette.specs.{Palette.nearest, Refined.{opaque_number, sum_to}}
use Rattle.sixel_palette.specs.inside.Sums.{counted_pixels}

-- each code has the number of the first pixels that have its color: whatever number each color has,
-- the sum over the codes is the sum over the pixels
pub record AreCounts (pixels codes counts : List ℕ) (count : ℕ) : Type 0 where
  pub same : length counts ≡ length codes
  pub sums : (number : List ℕ → ℕ)
      → (counted_pixels codes counts).sum number ≡ sum_to (opaque_number number pixels) count

-- the position is that of the color of an opaque pixel of this word
pub record HasPosition (codes : List ℕ) (word position : ℕ) : Type 0 where
  pub within : 128 ≤ word % 256 → position < length codes
  pub code : 128 ≤ word % 256 → slice_index codes position ≡ word / 256

-- the sum of the products of two lists, element by element
abbrev pub dot : List ℕ → List ℕ → ℕ
dot xs ys = sum_to (λ k. slice_index xs k * slice_index ys k) (length xs)

-- the summed squared error of the entries, over the codes
abbrev pub counted_error : List (List ℕ) → List ℕ → List ℕ → ℕ
counted_error entries codes counts = (counted_pixels codes counts).sum (nearest entries)
