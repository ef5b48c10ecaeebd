-- The error of a palette: sums over the opaque pixels, and what follows where it is none.
use Rattle.std.proofs.Common.{◌≡◌, ℕ, zero, suc, ◌+◌, ◌*◌, ◌<◌, ◌≤◌, List, [], length, refl, ◌∙◌}
use Rattle.std.proofs.{Common.{arith, inl, inr}, lemmas.Bool.{cases_eq, cases_lt}}
use Rattle.std.proofs.{lemmas.Bool.Decides.nat_tests, lemmas.List.get_or_default}
use Rattle.std.specs.Prelude.{◌/◌, Contains, All, Option, slice_index}
use Rattle.sixel_palette.specs.{Dithering.{IsIndex, Mapped, root, tolerance_of}, Palette.IsOpaque}
use Rattle.sixel_palette.specs.Palette.{color_at, entry_distance, nearest, no_entry}
use Rattle.sixel_palette.specs.Refined.{opaque_number, opaque_pixels, sum_to, summed_error}
use Rattle.sixel_palette.specs.declared.dither.Dither.TheVariants.{Diffusion}
use Rattle.sixel_palette.specs.declared.mapping.Tolerance.TheVariants.{Auto}
use Rattle.sixel_palette.proofs.{colors.Colors.Contains-nearest, colors.Distance.distance_self}
use Rattle.sixel_palette.proofs.nearest_entries.Nearest.{nearest-cap, nearest-le}
use Rattle.sixel_palette.proofs.refinement.Sums.{sum_to-more, sum_to-part}
pub use Rattle.sixel_palette.proofs.refinement.Sums.{sum_to-same}

-- the number of a transparent pixel is 0
pub number-dark : (number : List ℕ → ℕ) (pixels : List ℕ) (pixel : ℕ)
    → slice_index pixels (4 * pixel + 3) < 128 → opaque_number number pixels pixel ≡ 0
number-dark number pixels pixel dark = grind (arith, nat_tests)

-- that of an opaque one is its color's
pub number-light : (number : List ℕ → ℕ) (pixels : List ℕ) (pixel : ℕ) → IsOpaque pixels pixel
    → opaque_number number pixels pixel ≡ number (color_at pixels pixel)
number-light number pixels pixel light = grind (arith, nat_tests)

-- sums of numbers that are not greater
pub sum_to-le : (f g : ℕ → ℕ) (k n : ℕ) → ((i : ℕ) → i < n → f i ≤ k * g i)
    → sum_to f n ≤ k * sum_to g n
unfolding sum_to
sum_to-le f g k zero le = omega arith
sum_to-le f g k (suc n) le =
    omega (arith, sum_to-le f g k n (λ i l. le i (omega arith)), le n (omega arith))

-- ---- the square root

-- a number whose square is too great is left out
pub root-less : (number n : ℕ) → number < suc n * suc n → root number (suc n) ≡ root number n
unfolding root
root-less number n less = grind (arith, nat_tests)

-- another one is the root
pub root-found : (number n : ℕ) → n * n ≤ number → root number n ≡ n
unfolding root
root-found number n most = grind (arith, nat_tests)

module _ (colors : List (List ℕ)) (pixels : List ℕ) where
  -- each opaque pixel has a small error
  pub error-small : summed_error colors pixels ≤ no_entry * opaque_pixels pixels (λ _. 1)
  error-small = grind (arith, sum_to-le, number-dark, number-light, nearest-cap)

  -- ---- no error

  -- a palette without an error has each opaque pixel's color
  pub held-none : All (λ p. length p ≡ 3) colors → summed_error colors pixels ≡ 0 → (pixel : ℕ)
      → pixel < length pixels / 4 → IsOpaque pixels pixel → Contains colors (color_at pixels pixel)
  held-none three none pixel l light =
      let number = opaque_number (nearest colors) pixels in
      let part = sum_to-part number (pixel + 1) (length pixels / 4) (omega arith) in
      let more = sum_to-more number pixel in
      let own = number-light (nearest colors) pixels pixel light in
      Contains-nearest colors (color_at pixels pixel) three refl
      (omega (arith, none, part, more, own))

  -- as one has whose automatic tolerance is 0
  pub error-none : (strength : ℕ) → tolerance_of (Diffusion strength) Auto colors pixels ≡ 0
      → summed_error colors pixels ≡ 0
  error-none strength none = grind (arith, nat_tests, cases_eq (summed_error colors pixels) 0)

-- and the other way round: without an error no opaque pixel's color is no entry
pub tolerance-held : (strength : ℕ) (colors : List (List ℕ)) (pixels : List ℕ)
    → ((pixel : ℕ) → pixel < length pixels / 4 → IsOpaque pixels pixel
    → Contains colors (color_at pixels pixel))
    → tolerance_of (Diffusion strength) Auto colors pixels ≡ 0
tolerance-held strength colors pixels held =
    let le =
    sum_to-le (opaque_number (nearest colors) pixels) (opaque_number (λ _. 1) pixels) 0
    (length pixels / 4) (λ pixel l.
    elim (cases_lt (slice_index pixels (4 * pixel + 3)) 128) [
      | inl dark ↦ omega (arith, number-dark (nearest colors) pixels pixel dark)
      | inr light ↦
          let (i, inside, same) = held pixel l light in
          let place = get_or_default colors i [] (color_at pixels pixel) inside ∙ same in
          let near = nearest-le colors (color_at pixels pixel) i [] inside in
          grind (arith, nat_tests, number-light, distance_self)
    ]) in
    let none : summed_error colors pixels ≡ 0 = omega (arith, le) in
    grind (arith, nat_tests)

-- ---- the error of indices

-- sums of numbers that are greater by a multiple at most
pub sum_to-more_le : (f g h : ℕ → ℕ) (k n : ℕ) → ((i : ℕ) → i < n → f i ≤ g i + k * h i)
    → sum_to f n ≤ sum_to g n + k * sum_to h n
unfolding sum_to
sum_to-more_le f g h k zero le = omega arith
sum_to-more_le f g h k (suc n) le =
    omega (arith, sum_to-more_le f g h k n (λ i l. le i (omega arith)), le n (omega arith))

-- no entry is nearer than that of an index by more than the tolerance
pub any-near : (m : Mapped) (c : List ℕ) (neighbor : Option ℕ) (index i : ℕ)
    → IsIndex m c neighbor index → i < length m.colors
    → entry_distance m.colors c index ≤ entry_distance m.colors c i + m.tolerance
any-near m c neighbor index i is l = grind (arith, nat_tests, nearest-le)
