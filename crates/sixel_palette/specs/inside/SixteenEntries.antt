-- The keys of sixteen entries for a target. A key is 64 times the squared distance and then the
-- index, above a number that is the same for each entry. An entry that may not be kept has 64
-- times the tolerance more. One that may be kept has a part of 64 more, so that it is behind the
-- others at one distance; without a tolerance it has nothing more.
use Rattle.std.specs.Prelude.{◌≡◌, ℕ, ◌+◌, ◌*◌, ◌-◌, ◌<◌, ◌≤◌, ◌==◌, min, if◌then◌else◌, List}
use Rattle.std.specs.Prelude.{[], ◌∷◌, slice_index, slice_index_or, Option, Some, None}
use Rattle.sixel_palette.specs.Palette.{distance, entry_distance, no_entry}
use Rattle.sixel_palette.specs.declared.dithering.sixteen_entries.SixteenEntries.{SixteenEntries}

-- the lane of an entry, and one that is none
abbrev pub lane_of : Option ℕ → ℕ
lane_of None = 16
lane_of (Some entry) = entry

-- what is added to the key of an entry, if those of the neighbors are in these lanes
abbrev pub added : ℕ → ℕ → ℕ → ℕ → ℕ
added tolerance before above k =
    if k == before then 16 * min tolerance 1
    else if k == above then 32 * min tolerance 1 else 64 * min tolerance no_entry

-- the key of an entry
abbrev pub lane_key : List (List ℕ) → List ℕ → ℕ → ℕ → ℕ → ℕ → ℕ
lane_key colors c tolerance before above k =
    64 * (262144 - distance c (0 ∷ 0 ∷ 0 ∷ []) + entry_distance colors c k) + k
    + added tolerance before above k

-- what the key of an entry has beside the product, apart from what is added
abbrev pub fixed_key : List (List ℕ) → ℕ → ℕ
fixed_key colors k =
    16777216 + 64 * distance (slice_index_or colors k []) (0 ∷ 0 ∷ 0 ∷ []) + k

-- and with what is added, if only the entry in one lane may be kept
abbrev pub beside : List (List ℕ) → ℕ → ℕ → ℕ → ℕ → ℕ
beside colors tolerance lane near k =
    fixed_key colors k
    + (if k == lane then near * min tolerance 1 else 64 * min tolerance no_entry)

-- the entries are those of the sixteen colors
pub record AreSixteen (colors : List (List ℕ)) (tolerance : ℕ) (entries : SixteenEntries)
    : Type 0 where
  pub bytes : (k j : ℕ) → k < 16 → j < 3 → slice_index (slice_index_or colors k []) j < 256
  pub codes : (k : ℕ) → k < 16
      → slice_index entries.codes k ≡ slice_index (slice_index_or colors k []) 0
      + 256 * slice_index (slice_index_or colors k []) 1
      + 65536 * slice_index (slice_index_or colors k []) 2
  pub before : (lane k : ℕ) → lane ≤ 16 → k < 16
      → slice_index entries.before (16 * lane + k) ≡ beside colors tolerance lane 16 k
  pub above : (lane k : ℕ) → lane ≤ 16 → k < 16
      → slice_index entries.above (16 * lane + k) ≡ beside colors tolerance lane 32 k
