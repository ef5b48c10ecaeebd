-- Palette indices without dithering, or of colors that the pattern has moved. In a band of six rows
-- an entry costs most bytes where a run of its columns begins or ends. So an opaque pixel has the
-- cheapest of four entries, by distance and by the columns beside it that lack the entry. The
-- visits go from band to band, from column to column, from the top: earlier pixels count with
-- chosen entries, later ones with nearest entries.
use Rattle.std.specs.Prelude.{◌≡◌, ℕ, zero, suc, ◌+◌, ◌-◌, ◌*◌, ◌/◌, ◌%◌, ◌<◌, ◌==◌, nat_lt, Bool}
use Rattle.std.specs.Prelude.{false, ◌||◌, if◌then◌else◌, List, length, slice_index, Option}
use Rattle.std.specs.Prelude.{Some, None}
use Rattle.sixel_palette.specs.Palette.{IsOpaque, color_at, entry_distance, entry_of}

-- an image, its palette, the price of an entry that both columns beside lack, and for each pixel
-- the palette indices of its nearest and its chosen entry
pub record Undithered : Type 0 where
  pub width : ℕ
  pub pixels : List ℕ
  pub colors : List (List ℕ)
  pub price : ℕ
  pub nearest : List ℕ
  pub chosen : List ℕ

-- ---- columns of a band

abbrev pub is_entry : Option ℕ → ℕ → Bool
is_entry None entry = false
is_entry (Some own) entry = own == entry

-- one of n pixels from a pixel downwards has the entry
unfoldable pub has_entry : Undithered → List ℕ → ℕ → ℕ → ℕ → Bool
has_entry u indices entry pixel zero = false
has_entry u indices entry pixel (suc n) =
    is_entry (entry_of u.pixels indices pixel) entry
    || has_entry u indices entry (pixel + u.width) n

-- 1 if the column of the band below this topmost pixel lacks the entry
abbrev pub lacking_below : Undithered → List ℕ → ℕ → ℕ → ℕ
lacking_below u indices entry top = if has_entry u indices entry top 6 then 0 else 1

-- the pixel of a column and a row, and the topmost one in its band
abbrev pub pixel_of : Undithered → ℕ → ℕ → ℕ
pixel_of u column row = row * u.width + column

abbrev pub top_of : Undithered → ℕ → ℕ → ℕ
top_of u column row = row / 6 * 6 * u.width + column

-- 1 if the column before lacks the entry, or if there is none
abbrev pub lacking_before : Undithered → ℕ → ℕ → ℕ → ℕ
lacking_before u column row entry =
    if column == 0 then 1 else lacking_below u u.chosen entry (top_of u column row - 1)

-- so for the column after
abbrev pub lacking_after : Undithered → ℕ → ℕ → ℕ → ℕ
lacking_after u column row entry =
    if column + 1 == u.width then 1
    else lacking_below u u.nearest entry (top_of u column row + 1)

-- ---- neighbors

abbrev pub entry_before : Undithered → ℕ → ℕ → Option ℕ
entry_before u column row =
    if column == 0 then None else entry_of u.pixels u.chosen (pixel_of u column row - 1)

-- in the same band
abbrev pub entry_above : Undithered → ℕ → ℕ → Option ℕ
entry_above u column row =
    if row % 6 == 0 then None else entry_of u.pixels u.chosen (pixel_of u column row - u.width)

abbrev pub entry_after : Undithered → ℕ → ℕ → Option ℕ
entry_after u column row =
    if column + 1 == u.width then None
    else entry_of u.pixels u.nearest (pixel_of u column row + 1)

-- ---- costs

-- how many columns beside a pixel lack an entry, which is free if the pixel above has it
abbrev pub lacking : Undithered → ℕ → ℕ → ℕ → ℕ
lacking u column row entry =
    if is_entry (entry_above u column row) entry then 0
    else lacking_before u column row entry + lacking_after u column row entry

abbrev pub cost : Undithered → ℕ → ℕ → ℕ → ℕ
cost u column row entry =
    2 * entry_distance u.colors (color_at u.pixels (pixel_of u column row)) entry
    + u.price * lacking u column row entry

-- of two entries the cheaper one, the first one on ties
abbrev pub cheaper : Undithered → ℕ → ℕ → ℕ → Option ℕ → ℕ
cheaper u column row first None = first
cheaper u column row first (Some second) =
    if nat_lt (cost u column row second) (cost u column row first) then second else first

-- ---- the choice

-- the first cheapest one of a pixel's nearest entry and the entries of its neighbors
abbrev pub cheapest : Undithered → ℕ → ℕ → ℕ
cheapest u column row =
    cheaper u column row
    (cheaper u column row
    (cheaper u column row (slice_index u.nearest (pixel_of u column row))
    (entry_before u column row))
    (entry_above u column row))
    (entry_after u column row)

-- an opaque pixel has the cheapest entry, a transparent one the index 0
pub record IsChosen (u : Undithered) (column row : ℕ) : Type 0 where
  pub entry : IsOpaque u.pixels (pixel_of u column row)
      → slice_index u.chosen (pixel_of u column row) < length u.colors
  pub opaque : IsOpaque u.pixels (pixel_of u column row)
      → slice_index u.chosen (pixel_of u column row) ≡ cheapest u column row
  pub hidden : slice_index u.pixels (4 * pixel_of u column row + 3) < 128
      → slice_index u.chosen (pixel_of u column row) ≡ 0

-- so it is for each pixel
pub record AreChosen (u : Undithered) : Type 0 where
  pub one_each : length u.chosen ≡ length u.pixels / 4
  pub each : (column row : ℕ) → column < u.width → pixel_of u column row < length u.pixels / 4
      → IsChosen u column row
