-- Entries of a refined palette moved away from the mean color of an image. Error diffusion mixes
-- colors of entries, and no mixture lies outside of what the entries span, so a small palette of
-- means loses contrast.
use Rattle.std.specs.Prelude.{ℕ, ◌+◌, ◌-◌, ◌*◌, ◌/◌, ◌==◌, ◌||◌, min, nat_le, nat_lt, Bool}
use Rattle.std.specs.Prelude.{if◌then◌else◌, List, [], ◌∷◌, map, slice_index}
use Rattle.sixel_palette.specs.{ColorSums.share, Lloyd.mean_bytes, Palette.nearest}
use Rattle.sixel_palette.specs.Refined.{register_color}
use Rattle.sixel_palette.specs.declared.{dither.Dither.Dither, dither.Dither.TheVariants.Diffusion}

-- by how many 32nds entries are spread for this dithering and this number of colors at most
abbrev pub spread_amount : Dither → ℕ → ℕ
spread_amount (Diffusion strength) max_colors =
    if nat_lt 64 max_colors then 0 else if nat_lt 16 max_colors then 1
    else if nat_lt 2 max_colors then 2 else 16
spread_amount _ max_colors = 0

-- a channel moved away from a mean by 32nds of the difference, rounded down, at most to 0 or 255
abbrev pub spread_channel : ℕ → ℕ → ℕ → ℕ
spread_channel amount mean channel =
    if nat_lt channel mean then channel - (mean - channel) * amount / 32
    else min 255 (channel + (channel - mean) * amount / 32)

-- the color that a register shows for a color moved away from a mean
abbrev pub spread_color : ℕ → List ℕ → List ℕ → List ℕ
spread_color amount mean c =
    register_color
    (spread_channel amount (slice_index mean 0) (slice_index c 0)
    ∷ spread_channel amount (slice_index mean 1) (slice_index c 1)
    ∷ spread_channel amount (slice_index mean 2) (slice_index c 2) ∷ [])

-- 1 for a color within a squared distance of 12 from an entry, 0 for any other
abbrev pub near_number : List (List ℕ) → List ℕ → ℕ
near_number entries c = if nat_le (nearest entries c) 12 then 1 else 0

-- Flat art, by the sums over its opaque pixels of any number of a pixel's color: at least a quarter
-- of the pixels are near to entries. In a palette of all colors all of them are.
abbrev pub is_flat : ((List ℕ → ℕ) → ℕ) → List (List ℕ) → Bool
is_flat sum entries = nat_le (sum (λ _. 1)) (4 * sum (near_number entries))

-- the entries spread by `amount` 32nds away from the mean color, unless the pixels are flat art
abbrev pub spread_entries : ℕ → ((List ℕ → ℕ) → ℕ) → List (List ℕ) → List (List ℕ)
spread_entries amount sum entries =
    if amount == 0 || is_flat sum entries then entries
    else map (spread_color amount (mean_bytes (λ k. sum (share k)))) entries
