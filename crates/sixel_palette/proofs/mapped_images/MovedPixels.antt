-- The pixels that ordered dithering moves: as many as before, as opaque, and alike where they were.
use Rattle.std.proofs.Common.{◌≡◌, ℕ, ◌+◌, ◌*◌, ◌<◌, List, [], ◌∷◌, length, get_or, refl, ap, ◌∙◌}
use Rattle.std.proofs.{Common.arith, lemmas.Bool.Decides.nat_tests}
use Rattle.std.specs.Prelude.{◌/◌, slice_index}
use Rattle.sixel_base.specs.Picture.{joined}
use Rattle.sixel_base.proofs.PictureBytes.{get_or-joined, length-joined_below}
use Rattle.sixel_palette.specs.{Palette.{color_at, entry_of}, Pattern.{Pattern, amplitude_at}}
use Rattle.sixel_palette.specs.Pattern.{moved_color, moved_pixel, moved_pixels, shift_of}
use Rattle.sixel_palette.proofs.mapped_images.{PaletteError.number-light, SameVisits.AreAlike}

-- a byte of a pixel, of which each has four
pub pixel-byte : (f : ℕ → List ℕ) (n pixel i : ℕ) → ((k : ℕ) → k < n → length (f k) ≡ 4) → pixel < n
    → i < 4 → slice_index (joined f n) (4 * pixel + i) ≡ get_or (f pixel) i 0
pixel-byte f n pixel i four l li =
    let place : 4 * pixel + i ≡ pixel * 4 + i = omega arith in
    ap (slice_index (joined f n)) place ∙ get_or-joined f 4 n pixel i four l li

module _ (pattern : Pattern) (width : ℕ) (p : List ℕ) where
  pub moved-length : length (moved_pixels pattern width p) ≡ length p / 4 * 4
  moved-length =
      length-joined_below (moved_pixel pattern width p) 4 (length p / 4) (λ k l. refl)

  moved-byte : (pixel i : ℕ) → pixel < length p / 4 → i < 4
      → slice_index (moved_pixels pattern width p) (4 * pixel + i)
      ≡ get_or (moved_pixel pattern width p pixel) i 0
  moved-byte pixel i l li =
      pixel-byte (moved_pixel pattern width p) (length p / 4) pixel i (λ k h. refl) l li

  pub moved-alpha : (pixel : ℕ) → pixel < length p / 4
      → slice_index (moved_pixels pattern width p) (4 * pixel + 3)
      ≡ slice_index p (4 * pixel + 3)
  moved-alpha pixel l = moved-byte pixel 3 l (omega arith)

  pub moved-entry : (indices : List ℕ) (pixel : ℕ) → pixel < length p / 4
      → entry_of p indices pixel ≡ entry_of (moved_pixels pattern width p) indices pixel
  moved-entry indices pixel l = grind (arith, nat_tests, moved-alpha)

  pub moved-own : (pixel : ℕ) → pixel < length p / 4
      → color_at (moved_pixels pattern width p) pixel
      ≡ moved_color (amplitude_at pattern p pixel) (shift_of pattern.colors) width pixel
      (color_at p pixel)
  moved-own pixel l =
      let first : 4 * pixel ≡ 4 * pixel + 0 = omega arith in
      λ i.
      (ap (slice_index (moved_pixels pattern width p)) first
      ∙ moved-byte pixel 0 l (omega arith)) i
      ∷ moved-byte pixel 1 l (omega arith) i ∷ moved-byte pixel 2 l (omega arith) i ∷ []

-- pixels that show the same do so when they are moved
pub moved-alike : (pattern : Pattern) (width : ℕ) (p q : List ℕ) → AreAlike p q
    → AreAlike (moved_pixels pattern width p) (moved_pixels pattern width q)
moved-alike pattern width p q alike =
    let first = moved-length pattern width p in
    let second = moved-length pattern width q in
    grind (arith, nat_tests, moved-alpha, moved-own, number-light)
