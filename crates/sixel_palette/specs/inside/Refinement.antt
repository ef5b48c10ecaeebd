-- A refined palette whose pixels have no indices yet, by the codes of the image's colors and their
-- counts.
use Rattle.std.specs.{List.sum, Prelude.{◌≡◌, ℕ, ◌*◌, ◌/◌, ◌<◌, ◌≤◌, nat_le, if◌then◌else◌, List}}
use Rattle.std.specs.Prelude.{map, length, All, slice_index}
use Rattle.sixel_base.specs.Limits.{area_limit}
use Rattle.sixel_palette.specs.declared.palette.refined.RefinedEntries.{RefinedEntries}
use Rattle.sixel_palette.specs.declared.palette.refined.RefinedPalette.{RefinedPalette}
use Rattle.sixel_palette.specs.declared.palette.refined.Refinement.{Refinement}
use Rattle.sixel_palette.specs.{PaletteBound.IsLeastApart, Refined.{AreOnTop, IsRegisterColor}}
use Rattle.sixel_palette.specs.{Refined.{base_entries, cut_entries, register_color}, Spread.is_flat}
use Rattle.sixel_palette.specs.{Spread.spread_entries, inside.Codes.{IsListed, color_of}}
use Rattle.sixel_palette.specs.{inside.Counts.{AreCounts, counted_error}, inside.Nearest.AreNearest}
use Rattle.sixel_palette.specs.{inside.Ranks.IsColorSetOf, inside.Sums.counted_pixels}

-- the entries are refined for these codes and counts
pub record AreRefinedEntries (codes counts : List ℕ) (room : ℕ) (entries : RefinedEntries)
    : Type 0 where
  pub shown : All IsRegisterColor entries.colors.items
  pub few : length entries.colors.items ≤ room
  pub some : 0 < length codes → 0 < length entries.colors.items
  pub initial_shown : All IsRegisterColor entries.initial.items
  pub initial_few : length entries.initial.items ≤ room
  -- before the rounds, and after them
  pub base : List (List ℕ)
  pub whole : length codes ≤ room
      → (entries.initial.items ≡ map (λ code. register_color (color_of code)) codes)
      × (base ≡ map (λ code. register_color (color_of code)) codes)
  pub cut : room < length codes
      → (entries.initial.items ≡ cut_entries (counted_pixels codes counts) room)
      × (base ≡ base_entries (counted_pixels codes counts) room)
  pub falls : counted_error base codes counts ≤ counted_error entries.initial.items codes counts
  pub top : AreOnTop (IsListed codes) room base entries.colors.items entries.witnesses.items
  -- each code has the palette index of its color's nearest entry
  pub same : length entries.indices.items ≡ length codes
  pub squares : List ℕ
  pub nearest : AreNearest entries.colors.items codes squares entries.indices.items
  pub error : entries.error ≡ counted_error entries.colors.items codes counts
  pub opaque : entries.opaque ≡ sum counts
  pub flat : entries.is_flat ≡ is_flat (counted_pixels codes counts).sum entries.colors.items
  pub apart : IsLeastApart entries.witnesses.items entries.apart

-- the count of a color at this squared distance from its nearest entry, if that is near
abbrev pub near_count : ℕ → ℕ → ℕ
near_count count squared = count * (if nat_le squared 12 then 1 else 0)

-- the entries are those of a refined palette, spread by 32nds
pub record AreSpreadEntries (codes counts : List ℕ) (room amount : ℕ) (entries : RefinedEntries)
    : Type 0 where
  pub refined : RefinedEntries
  pub are : AreRefinedEntries codes counts room refined
  pub none : amount ≡ 0 → entries ≡ refined
  pub spread : entries.colors.items
      ≡ spread_entries amount (counted_pixels codes counts).sum refined.colors.items
  -- registers show them, and each code has the palette index of its color's nearest one
  pub shown : All IsRegisterColor entries.colors.items
  pub size : length entries.colors.items ≡ length refined.colors.items
  pub same : length entries.indices.items ≡ length codes
  pub squares : List ℕ
  pub nearest : AreNearest entries.colors.items codes squares entries.indices.items
  pub error : entries.error ≡ counted_error entries.colors.items codes counts
  pub opaque : entries.opaque ≡ sum counts

-- the palette is refined for the image
pub record IsRefinement (pixels : List ℕ) (room amount : ℕ) (it : Refinement) : Type 0 where
  pub area : length pixels / 4 ≤ area_limit
  pub bytes : (k : ℕ) → slice_index pixels k < 256
  pub colors : IsColorSetOf pixels it.colors
  pub counts : List ℕ
  pub counted : AreCounts pixels it.colors.codes.items counts (length pixels / 4)
  pub entries : AreSpreadEntries it.colors.codes.items counts room amount it.entries

-- the palette has these entries
pub record HasEntries (entries : RefinedEntries) (palette : RefinedPalette) : Type 0 where
  pub colors : palette.colors.items ≡ entries.colors.items
  pub error : palette.error ≡ entries.error
  pub initial : palette.initial.items ≡ entries.initial.items
  pub witnesses : palette.witnesses.items ≡ entries.witnesses.items
  pub apart : palette.apart ≡ entries.apart
