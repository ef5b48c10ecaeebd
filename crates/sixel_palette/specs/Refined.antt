-- The refined palette of an image: colors that a register shows, and the summed squared error of a
-- list of entries over the image's opaque pixels. A register stores percentages (DEC's color
-- introducer), so the entries lie on their grid.
use Rattle.std.specs.Prelude.{◌≡◌, ◌⊎◌, ℕ, ◌+◌, ◌-◌, ◌*◌, ◌/◌, ◌<◌, ◌≤◌, List, [], ◌∷◌, ◌++◌, map}
use Rattle.std.specs.Prelude.{length, take, zero, suc, nat_lt, if◌then◌else◌, slice_index}
use Rattle.std.specs.Prelude.{slice_index_or, All}
use Rattle.sixel_base.specs.Color.{rgb}
use Rattle.sixel_palette.specs.declared.palette.refined.RefinedPalette.{RefinedPalette}
use Rattle.sixel_palette.specs.{ColorSums.Pixels, GainCut.{Box, bin_step, box_colors, boxes_after}}
use Rattle.sixel_palette.specs.{GainCut.is_final, Lloyd.improved_entries, Palette.nearest}
use Rattle.sixel_palette.specs.Palette.{color_at, IsShown, AreMembers, AreIndices, IsFarthest}
use Rattle.sixel_palette.specs.PaletteBound.{IsLeastApart, NoListIsBetter}

-- a register shows the color: it is that of three percentages
abbrev pub IsRegisterColor : List ℕ → Type 0
IsRegisterColor c = (red green blue : ℕ) × (c ≡ rgb red green blue)

-- a channel as a percentage, rounded
abbrev pub percentage : ℕ → ℕ
percentage channel = (channel * 100 + 127) / 255

-- the color that a register shows for a color
abbrev pub register_color : List ℕ → List ℕ
register_color c =
    rgb (percentage (slice_index c 0)) (percentage (slice_index c 1)) (percentage (slice_index c 2))

-- the sum of the first numbers of a sequence
unfoldable pub sum_to : (ℕ → ℕ) → ℕ → ℕ
sum_to number zero = 0
sum_to number (suc n) = sum_to number n + number n

-- a number of a pixel's color, 0 for a transparent pixel
abbrev pub opaque_number : (List ℕ → ℕ) → List ℕ → ℕ → ℕ
opaque_number number pixels pixel =
    if nat_lt (slice_index pixels (4 * pixel + 3)) 128 then 0 else number (color_at pixels pixel)

-- the sum over the opaque pixels of an image of any number of a pixel's color
abbrev pub opaque_pixels : List ℕ → (List ℕ → ℕ) → ℕ
opaque_pixels pixels number = sum_to (opaque_number number pixels) (length pixels / 4)

-- the opaque pixels of an image in bins, by its number of opaque colors
abbrev pub opaque_bins : List ℕ → ℕ → Pixels
opaque_bins pixels colors = record { sum = opaque_pixels pixels; step = bin_step colors }

-- the squared distance of a pixel's color to its nearest entry, 0 for a transparent pixel
abbrev pub pixel_error : List (List ℕ) → List ℕ → ℕ → ℕ
pixel_error entries pixels = opaque_number (nearest entries) pixels

-- the summed squared error of the entries, over all pixels
abbrev pub summed_error : List (List ℕ) → List ℕ → ℕ
summed_error entries pixels = sum_to (pixel_error entries pixels) (length pixels / 4)

-- the boxes that the colors are cut into: a sixteenth of the entries is left for the farthest
-- colors
abbrev pub cut_boxes : Pixels → ℕ → List Box
cut_boxes pixels max_colors = boxes_after pixels (max_colors - max_colors / 16 - 1)

-- the entries before the rounds: the means of the boxes
abbrev pub cut_entries : Pixels → ℕ → List (List ℕ)
cut_entries pixels max_colors = box_colors pixels (cut_boxes pixels max_colors)

-- the entries after the rounds, which are left out if no box can be cut
abbrev pub base_entries : Pixels → ℕ → List (List ℕ)
base_entries pixels max_colors =
    if is_final pixels (cut_boxes pixels max_colors) then cut_entries pixels max_colors
    else improved_entries pixels (cut_entries pixels max_colors)

-- the color is farthest from its nearest entry, and by more than percentages may move an entry
pub record IsFarOff (Member : List ℕ → Type 0) (entries : List (List ℕ)) (c : List ℕ)
    : Type 0 where
  pub farthest : IsFarthest Member entries c
  pub far : 6 < nearest entries c

-- the entries are those of the base, and then entries for the witnesses but the last. Each witness
-- is farthest from the entries before its own. Without such entries there are no witnesses. There
-- are as many entries as there may be, or each member is near to one.
pub record AreOnTop (Member : List ℕ → Type 0) (max_colors : ℕ)
    (base entries witnesses : List (List ℕ)) : Type 0 where
  pub tops : List (List ℕ)
  pub whole : entries ≡ base ++ map register_color tops
  pub order : (i : ℕ) (d : List ℕ) → i < length tops
      → IsFarOff Member (base ++ map register_color (take i tops)) (slice_index_or tops i d)
  pub full : (length entries ≡ max_colors)
      ⊎ ((c : List ℕ) → Member c → nearest entries c ≤ 6)
  pub none : length tops ≡ 0 → witnesses ≡ []
  pub some : 0 < length tops
      → (c : List ℕ) × IsFarthest Member entries c × (witnesses ≡ tops ++ c ∷ [])

-- the refined palette of an image
pub record IsRefined (pixels : List ℕ) (max_colors : ℕ) (palette : RefinedPalette) : Type 0 where
  -- registers show the entries, of which there are not too many
  pub shown : All IsRegisterColor palette.colors.items
  pub few : length palette.colors.items ≤ max_colors
  -- with at most as many opaque colors as entries, these are the entries, in order
  pub members : List (List ℕ)
  pub are : AreMembers (IsShown pixels) members
  pub whole : length members ≤ max_colors
      → (palette.initial.items ≡ map register_color members)
      × (palette.colors.items ≡ map register_color members)
  -- otherwise they are those of the boxes after the rounds, and then those on top
  pub base : List (List ℕ)
  pub cut : max_colors < length members
      → (palette.initial.items ≡ cut_entries (opaque_bins pixels (length members)) max_colors)
      × (base ≡ base_entries (opaque_bins pixels (length members)) max_colors)
  pub top : AreOnTop (IsShown pixels) max_colors base palette.colors.items palette.witnesses.items
  pub indices : AreIndices pixels palette.colors.items palette.indices.items
  -- the error is the true sum, and at most that of the entries before the rounds
  pub error : palette.error ≡ summed_error palette.colors.items pixels
  pub falls : summed_error palette.colors.items pixels
      ≤ summed_error palette.initial.items pixels
  pub initial_shown : All IsRegisterColor palette.initial.items
  pub initial_few : length palette.initial.items ≤ max_colors
  -- the certificate of the entries on top
  pub witnesses : All (IsShown pixels) palette.witnesses.items
  pub apart : IsLeastApart palette.witnesses.items palette.apart
  pub bound : (n : ℕ) → n < length palette.witnesses.items
      → NoListIsBetter (IsShown pixels) n palette.apart
