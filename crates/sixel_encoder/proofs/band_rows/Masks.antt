-- The sixel of a band's column, one line more.
use Rattle.std.proofs.Common.{◌≡◌, ℕ, suc, ◌+◌, ◌*◌, ◌^◌, ◌<◌, ◌≤◌, Bool, false, cond, length, refl}
use Rattle.std.proofs.{Common.{ap, arith, None}, lemmas.Bool.Decides.nat_tests, Math.Nat.mul_comm}
use Rattle.std.proofs.{Math.Nat.pow-le-pow_right, lemmas.Nat.{mul-add-lt, mul-le}}
use Rattle.std.proofs.{lemmas.List.get_or_past, lemmas.List.FromFn.length-map-range_with_len}
use Rattle.std.proofs.{lemmas.List.FromFn.get_or-map-range_with_len, lemmas.Grind.common_steps}
use Rattle.sixel_encoder.specs.Text.{entry_at, is_entry, mask, sixel_of}
use Rattle.sixel_encoder.specs.{declared.text.IndexedImage.IndexedImage, inside.Grid.pixel_bit}
use Rattle.sixel_encoder.specs.inside.Indexed.{entry_of, entries_of, drawing_of, IsIndexed}
use Rattle.sixel_encoder.proofs.MaskBits.{mask-nothing}

pub mask-none : (test : ℕ → Bool) → mask test 0 ≡ 0
unfolding mask
mask-none test = refl

pub mask-more : (test : ℕ → Bool) (n : ℕ)
    → mask test (n + 1) ≡ mask test n + cond (test n) (2 ^ n) 0
unfolding mask
mask-more test n = let e : n + 1 ≡ suc n = omega arith in ap (mask test) e

-- a line's weight is that of one of six bits
pub weight-le : (bit : ℕ) → bit < 6 → 2 ^ bit ≤ 32
weight-le bit h = grind (arith, nat_tests, pow-le-pow_right)

pub length-entries : (image : IndexedImage) → IsIndexed image
    → length (entries_of image.pixels.now image.indices.now) ≡ image.width * image.height
length-entries image is = grind (arith, nat_tests, length-map-range_with_len)

-- the entry of a pixel of the image
pub entry_at-inside : (image : IndexedImage) (x row : ℕ) → IsIndexed image → x < image.width
    → row < image.height
    → entry_at (drawing_of image) x row
    ≡ entry_of image.pixels.now image.indices.now (row * image.width + x)
entry_at-inside image x row is lx lr = grind (arith, mul-add-lt, get_or-map-range_with_len)

-- there is none below the last row
pub entry_at-below : (image : IndexedImage) (x row : ℕ) → IsIndexed image → image.height ≤ row
    → entry_at (drawing_of image) x row ≡ None
entry_at-below image x row is h = grind (arith, get_or_past, mul-le, mul_comm, length-entries)

-- whether the pixels of a band's column have the entry
abbrev pub hits : IndexedImage → ℕ → ℕ → ℕ → ℕ → Bool
hits image band e x bit = is_entry e (entry_at (drawing_of image) x (6 * band + bit))

module _ (image : IndexedImage) (band bit e x : ℕ) (is : IsIndexed image) where
  -- a line of the image adds its pixels
  pub mask-line : (old weight new : ℕ) → x < image.width → 6 * band + bit < image.height
      → old ≡ mask (hits image band e x) bit → weight ≡ 2 ^ bit
      → new
      ≡ old
      + pixel_bit weight e
      (entry_of image.pixels.now image.indices.now ((6 * band + bit) * image.width + x))
      → new ≡ mask (hits image band e x) (bit + 1)
  mask-line old weight new lx lr was w now = grind (arith, nat_tests, entry_at-inside, mask-more)

  -- a line below the image adds none
  pub mask-below : (old : ℕ) → image.height ≤ 6 * band + bit → old ≡ mask (hits image band e x) bit
      → old ≡ mask (hits image band e x) (bit + 1)
  mask-below old h was = grind (arith, nat_tests, entry_at-below, mask-more)

  -- nor does a pixel of a band
  pub hits-past : x < image.width → length image.colors.now ≤ e → hits image band e x bit ≡ false
  hits-past lx past = grind (arith, common_steps, entry_at-inside, entry_at-below)

-- nor does its sixel have a dot
pub sixel-past : (image : IndexedImage) (band e x : ℕ) → IsIndexed image → x < image.width
    → length image.colors.now ≤ e → sixel_of (drawing_of image) band e x ≡ 0
sixel-past image band e x is lx past = grind (arith, nat_tests, mask-nothing, hits-past)
