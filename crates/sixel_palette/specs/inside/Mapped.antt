-- How code sees an image that is mapped to a palette, its pattern and its places, and the entries
-- that may be kept.
use Rattle.std.specs.Prelude.{◌≡◌, ℕ, ◌+◌, ◌*◌, ◌/◌, ◌<◌, ◌≤◌, List, length, slice_index, Option}
use Rattle.std.specs.Prelude.{Some, None}
use Rattle.sixel_palette.specs.Palette.{IsOpaque, nearest, no_entry, entry_distance}
use Rattle.sixel_palette.specs.declared.dithering.mapped.Kept.{Kept}
use Rattle.sixel_palette.specs.declared.dithering.mapped.MappedImage.{MappedImage}
use Rattle.sixel_palette.specs.declared.dithering.mapped.Place.{Place}
use Rattle.sixel_palette.specs.declared.dithering.ordered.Pattern.{Pattern as CodePattern}
use Rattle.sixel_palette.specs.Dithering.{IsIndex, Mapped, neighbor_of, serpentine, whole_rows}
use Rattle.sixel_palette.specs.Pattern.{Pattern}

-- the image, apart from where its pixels and colors lie
abbrev pub mapped_value : MappedImage → Mapped
mapped_value image = record {
  width = image.width;
  pixels = image.pixels.now;
  colors = image.colors.now;
  strength = image.strength;
  tolerance = image.tolerance;
}

-- the pattern for these entries
abbrev pub pattern_value : List (List ℕ) → CodePattern → Pattern
pattern_value colors pattern = record {
  colors = colors;
  amplitude = pattern.amplitude;
  limit = pattern.limit;
}

-- the pixels are whole rows, and the palette has not too many colors
pub record IsWhole (image : MappedImage) : Type 0 where
  pub wide : 0 < image.width
  pub rows : length image.pixels.now ≡ whole_rows (length image.pixels.now) image.width
  pub few : length image.colors.now ≤ 256

-- the palette has some too, and the strength is valid
pub record IsMappable (image : MappedImage) : Type 0 where
  pub whole : IsWhole image
  pub some : 0 < length image.colors.now
  pub strength : image.strength ≤ 8

-- the place of a step of a row
pub record IsPlace (m : Mapped) (place : Place) : Type 0 where
  pub step : place.step < m.width
  pub row : place.row * m.width + m.width ≤ length m.pixels / 4
  pub pixel : serpentine m.width (place.row * m.width + place.step) ≡ place.pixel
  pub within : place.pixel < length m.pixels / 4

-- each index is that of an entry
abbrev pub AreEntries : List (List ℕ) → List ℕ → Type 0
AreEntries colors indices = (k : ℕ) → slice_index indices k < length colors

-- where there is no entry to keep
abbrev pub no_distance : ℕ
no_distance = 4294967295

-- the entry may be kept, or there is none that is near enough
pub record IsKept (m : Mapped) (target : List ℕ) (neighbor : Option ℕ) (kept : Kept)
    : Type 0 where
  pub some : kept.squared < no_distance
      → (neighbor ≡ Some kept.index) × (kept.index < length m.colors)
      × (kept.squared ≡ entry_distance m.colors target kept.index)
  pub none : no_distance ≤ kept.squared → (entry : ℕ) → neighbor ≡ Some entry
      → nearest m.colors target + m.tolerance ≤ entry_distance m.colors target entry

-- an entry with its distance to a color
abbrev pub kept_value : List (List ℕ) → List ℕ → Option ℕ → Kept
kept_value colors c None = record { squared = no_distance; index = 0 }
kept_value colors c (Some entry) =
    record { squared = entry_distance colors c entry; index = entry }

-- an entry, if there is one, is one of the palette
pub record IsInside (colors : List (List ℕ)) (c : List ℕ) (neighbor : Option ℕ) : Type 0 where
  pub entry : (entry : ℕ) → neighbor ≡ Some entry → entry < length colors
  pub near : (entry : ℕ) → neighbor ≡ Some entry → entry_distance colors c entry < no_entry

-- the pixel of a visit would have the index, if it were stored
pub record IsIndexAt (m : Mapped) (target indices : List ℕ) (n index : ℕ) : Type 0 where
  pub entry : index < length m.colors
  pub opaque : IsOpaque m.pixels (serpentine m.width n)
      → IsIndex m target (neighbor_of m target indices n) index
  pub hidden : slice_index m.pixels (4 * serpentine m.width n + 3) < 128 → index ≡ 0
