-- What of a sixel is inside a clip: its pixels, its bits and its columns.
use Rattle.std.proofs.Common.{◌≡◌, ℕ, ◌-◌, ◌%◌, ◌^◌, ◌≤◌, Bool, false, min, arith}
use Rattle.std.{proofs.lemmas.Bool.Decides.nat_tests, proofs.lemmas.Nat.and_mask}
use Rattle.std.proofs.lemmas.Nat.Bits.{bit_at_and, bit_at-lt, bit_at_ones, bit_at_ones_above}
use Rattle.std.specs.Prelude.{◌&&◌, nat_lt}
use Rattle.sixel_base.{proofs.PictureBytes.joined-same, specs.Clip.{clipped_bits, clipped_pixel}}
use Rattle.sixel_base.{specs.Clip.is_pixel_inside, specs.History.History, specs.Limits.Limit}
use Rattle.sixel_base.{specs.Picture.{covers, is_set, picture}, specs.Stroke.{Origin, pixel}}

-- a test that fails last
pub fails_third : (a b : Bool) → (a && b && false) ≡ false
fails_third a b = grind (arith, nat_tests)

pub fails_second : (a b : Bool) → (a && false && b) ≡ false
fails_second a b = grind (arith, nat_tests)

-- a bit of the lowest ones
is_set-low : (bits n k : ℕ) → is_set (bits % 2 ^ n) k ≡ (nat_lt k n && is_set bits k)
is_set-low bits n k =
    let masked = rw (and_mask bits n) at (bit_at_and bits (2 ^ n - 1) k) in
    grind (arith, nat_tests, masked, bit_at_ones n k, bit_at_ones_above n k, bit_at-lt bits k)

-- the pixels inside that a sixel covers are those of its columns and bits inside
pub covers_clipped : (limit : Limit) (from to top bits column row : ℕ)
    → covers from (min to limit.columns) top (clipped_bits limit top bits) column row
    ≡ (is_pixel_inside limit column row && covers from to top bits column row)
covers_clipped limit from to top bits column row =
    grind (arith, nat_tests, is_set-low, fails_third, fails_second)

-- a sixel whose first pixel is outside covers none inside
pub covers_outside : (limit : Limit) (from to top bits column row : ℕ)
    → is_pixel_inside limit from top ≡ false
    → (is_pixel_inside limit column row && covers from to top bits column row) ≡ false
covers_outside limit from to top bits column row outside = grind (arith, nat_tests)

-- inside the clip the picture is that of all pixels
pub clipped_picture : (o : Origin) (h : History) (width height : ℕ)
    → width ≤ o.pixel_limit.columns → height ≤ o.pixel_limit.rows
    → picture (clipped_pixel o h) width height ≡ picture (pixel o h) width height
unfolding picture
clipped_picture o h width height narrow low = grind (arith, nat_tests, joined-same)
