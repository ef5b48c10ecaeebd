-- Sums over pixels, and the mean of their colors as a register shows it. A register stores
-- percentages (DEC's color introducer), so a mean is rounded to the nearest percentage.
use Rattle.std.specs.Prelude.{ℕ, ◌+◌, ◌*◌, ◌/◌, ◌==◌, zero, suc, Bool, List, slice_index}
use Rattle.std.specs.Prelude.{if◌then◌else◌}
use Rattle.sixel_base.specs.Color.{rgb}

-- the pixels of an image in bins: the sum over them of any number of a pixel's color, and how many
-- values a channel has within a bin
pub record Pixels : Type 0 where
  pub sum : (List ℕ → ℕ) → ℕ
  pub step : ℕ

-- what a color adds to the sums: 1 to the number of pixels, which is at 0, and its red, green and
-- blue to the sums of these channels, which are at 1, 2 and 3
abbrev pub share : ℕ → List ℕ → ℕ
share zero c = 1
share (suc zero) c = slice_index c 0
share (suc (suc zero)) c = slice_index c 1
share (suc (suc (suc _))) c = slice_index c 2

-- the sums over the pixels whose color is in a set
abbrev pub sums_of : Pixels → (List ℕ → Bool) → ℕ → ℕ
sums_of pixels contains k = pixels.sum (λ c. if contains c then share k c else 0)

-- the mean of a channel as a percentage of 255, rounded
abbrev pub mean_percent : ℕ → ℕ → ℕ
mean_percent sum count = (200 * sum + 255 * count) / (510 * count)

-- the register color next to the mean, or another color if there is no pixel
abbrev pub mean_or : (ℕ → ℕ) → List ℕ → List ℕ
mean_or sums color =
    if sums 0 == 0 then color
    else rgb (mean_percent (sums 1) (sums 0)) (mean_percent (sums 2) (sums 0))
    (mean_percent (sums 3) (sums 0))
