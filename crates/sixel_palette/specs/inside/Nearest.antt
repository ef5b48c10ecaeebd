-- A color's nearest entry: its squared distance and its palette index, the first one of those at
-- that distance.
use Rattle.std.specs.Prelude.{◌≡◌, ℕ, ◌+◌, ◌*◌, ◌/◌, ◌%◌, ◌<◌, ◌≤◌, List, [], length}
use Rattle.std.specs.Prelude.{slice_index, slice_index_or}
use Rattle.sixel_palette.specs.declared.palette.nearest_entry.NearestEntry.{NearestEntry}
use Rattle.sixel_palette.specs.Palette.{distance, nearest, color_at, IsOpaque, no_entry}
use Rattle.sixel_palette.specs.inside.Codes.{color_of}

-- this is the nearest entry of the color, if there is an entry: the first of the nearest
pub record IsNearestEntry (entries : List (List ℕ)) (c : List ℕ) (near : NearestEntry)
    : Type 0 where
  pub gap : near.squared ≡ nearest entries c
  pub within : nearest entries c < no_entry → near.index < length entries
  pub least : nearest entries c < no_entry
      → distance (slice_index_or entries near.index []) c ≡ nearest entries c
  pub first : nearest entries c < no_entry → (j : ℕ) → j < near.index
      → nearest entries c < distance (slice_index_or entries j []) c

-- the nearest entry in two lists of the color at a position
abbrev pub nearest_at : List ℕ → List ℕ → ℕ → NearestEntry
nearest_at squares indices k = record {
  squared = slice_index squares k;
  index = slice_index indices k;
}

-- the two lists are those of the nearest entries of the colors of a list of codes
abbrev pub AreNearest : List (List ℕ) → List ℕ → List ℕ → List ℕ → Type 0
AreNearest entries codes squares indices =
    (k : ℕ) → k < length codes
    → IsNearestEntry entries (color_of (slice_index codes k)) (nearest_at squares indices k)

-- the palette index for a pixel of this word: that of its code, 0 if the pixel is transparent
pub record IsIndexOf (codes color_indices : List ℕ) (word index : ℕ) : Type 0 where
  pub opaque : 128 ≤ word % 256 → (k : ℕ) × (k < length codes)
      × (slice_index codes k ≡ word / 256) × (slice_index color_indices k ≡ index)
  pub hidden : word % 256 < 128 → index ≡ 0

-- the palette index of a pixel: that of a code of its color, 0 if the pixel is transparent
pub record IsIndex (pixels codes color_indices : List ℕ) (pixel index : ℕ) : Type 0 where
  pub opaque : IsOpaque pixels pixel → (k : ℕ) × (k < length codes)
      × (color_of (slice_index codes k) ≡ color_at pixels pixel)
      × (slice_index color_indices k ≡ index)
  pub hidden : slice_index pixels (4 * pixel + 3) < 128 → index ≡ 0

-- so it is for each of the first pixels
abbrev pub AreIndicesTo : List ℕ → List ℕ → List ℕ → ℕ → List ℕ → Type 0
AreIndicesTo pixels codes color_indices count indices =
    (k : ℕ) → k < count → IsIndex pixels codes color_indices k (slice_index indices k)
