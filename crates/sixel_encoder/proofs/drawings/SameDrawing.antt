-- Images that show the same have one drawing.
use Rattle.std.proofs.Common.{◌≡◌, ℕ, ◌+◌, ◌*◌, ◌/◌, ◌<◌, List, length, get_or, ap, arith, None}
use Rattle.std.proofs.lemmas.{Bool.Decides.nat_tests, List.ext_get_or}
use Rattle.std.proofs.lemmas.List.FromFn.{length-map-range_with_len, get_or-map-range_with_len}
use Rattle.sixel_palette.specs.Palette.{color_at, IsOpaque, IsShown, IsNearest}
use Rattle.sixel_base.specs.Payload.{Image}
use Rattle.sixel_encoder.specs.Encoding.{IsDrawing, ShownImage, shown_color, shown_image}
use Rattle.sixel_encoder.specs.Text.{Drawing}
use Rattle.sixel_palette.proofs.mapped_images.SameVisits.{AreAlike}

module _ (image other : Image) (e : shown_image image ≡ shown_image other) where
  -- as many pixels
  pub count-same : length image.pixels / 4 ≡ length other.pixels / 4
  count-same =
      let same = ap (λ (s : ShownImage). length s.colors) e in
      grind (arith, nat_tests, length-map-range_with_len)

  -- and the same of each
  color-same : (pixel : ℕ) → pixel < length image.pixels / 4
      → shown_color image.pixels pixel ≡ shown_color other.pixels pixel
  color-same pixel l =
      let same = ap (λ (s : ShownImage). get_or s.colors pixel None) e in
      grind (arith, nat_tests, get_or-map-range_with_len, count-same)

  -- a pixel that is shown in one is shown in the other, in its color
  pub opaque-other : (pixel : ℕ) → pixel < length image.pixels / 4 → IsOpaque image.pixels pixel
      → IsOpaque other.pixels pixel × (color_at other.pixels pixel ≡ color_at image.pixels pixel)
  opaque-other pixel l is =
      grind (arith, nat_tests, color-same pixel)

  pub transparent-other : (pixel : ℕ) → pixel < length image.pixels / 4
      → get_or image.pixels (4 * pixel + 3) 0 < 128 → get_or other.pixels (4 * pixel + 3) 0 < 128
  transparent-other pixel l is = grind (arith, nat_tests, color-same pixel)

  -- they show the same colors
  pub IsShown-other : (c : List ℕ) → IsShown image.pixels c → IsShown other.pixels c
  IsShown-other c shown = grind (arith, nat_tests, opaque-other, count-same)

module _ (image other : Image) (max_colors : ℕ) (drawing another : Drawing)
    (one : (entries : List (List ℕ)) (c : List ℕ) (i j : ℕ) → IsNearest entries c i
    → IsNearest entries c j → i ≡ j) (e : shown_image image ≡ shown_image other)
    (is : IsDrawing image max_colors drawing) (also : IsDrawing other max_colors another)
    (palette : drawing.colors ≡ another.colors) where
  -- their pixels have the same entries, if a color has one nearest entry
  entry-same : (pixel : ℕ) → pixel < length image.pixels / 4
      → get_or drawing.entries pixel None ≡ get_or another.entries pixel None
  entry-same pixel l = grind (arith, nat_tests, count-same, transparent-other, opaque-other)

  pub drawing_same : drawing ≡ another
  drawing_same =
      let entries =
      ext_get_or None drawing.entries another.entries
      (omega (arith, is.size, also.size, count-same image other e))
      (λ pixel l. entry-same pixel (omega (arith, is.size))) in
      grind (arith, nat_tests)

-- as those of images that show the same
pub AreAlike-images : (image other : Image) → shown_image image ≡ shown_image other
    → AreAlike image.pixels other.pixels
AreAlike-images image other e =
    grind (arith, nat_tests, count-same, opaque-other, transparent-other)
