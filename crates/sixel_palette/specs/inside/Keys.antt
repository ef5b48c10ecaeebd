-- A search for the nearest entry of a color, by keys. The key of an entry for a color is 256 times
-- the squared distance, plus the palette index. So the least key is that of the nearest entry, the
-- first of those.
use Rattle.std.specs.Prelude.{◌≡◌, ℕ, ◌+◌, ◌-◌, ◌*◌, ◌/◌, ◌%◌, ◌<◌, ◌≤◌, min, List, [], ◌∷◌, ◌++◌}
use Rattle.std.specs.Prelude.{length, take, drop, slice_index, slice_index_or}
use Rattle.sixel_palette.specs.declared.{palette.nearest.Lists.Lists, palette.nearest.Search.Search}
use Rattle.sixel_palette.specs.declared.{palette.nearest.Span.Span, palette.nearest.cube.Cube.Cube}
use Rattle.sixel_palette.specs.declared.palette.nearest_entry.Entry.{Entry}
use Rattle.sixel_palette.specs.Palette.{distance, nearest, no_entry}
use Rattle.sixel_palette.specs.inside.{Buckets.IsInInterval, Codes.{color_of, code_count}}

-- the key of an entry for a color
unfoldable pub key_of : Entry → List ℕ → ℕ
key_of entry c = 256 * distance entry.color c + entry.index

-- the entry at a position
abbrev pub entry_at : List Entry → ℕ → Entry
entry_at entries k = slice_index_or entries k (record { color = []; index = 0 })

-- the least key of some entries for a color
unfoldable pub least_key : List Entry → List ℕ → ℕ
least_key [] c = 256 * no_entry
least_key (e ∷ es) c = min (key_of e c) (least_key es c)

-- the color is in the cube
pub record IsInCube (cube : Cube) (c : List ℕ) : Type 0 where
  pub red : IsInInterval cube.red (slice_index c 0)
  pub green : IsInInterval cube.green (slice_index c 1)
  pub blue : IsInInterval cube.blue (slice_index c 2)

-- the new list is the old one, and then entries that have the nearest one of each color of the cube
pub record Appends (entries : List Entry) (cube : Cube) (old new : List Entry) : Type 0 where
  pub some : List Entry
  pub whole : new ≡ old ++ some
  pub nearest : (c : List ℕ) → IsInCube cube c → least_key some c ≡ least_key entries c

-- the entries are the colors, numbered from 0 on
pub record AreNumbered (colors : List (List ℕ)) (entries : List Entry) : Type 0 where
  pub few : length colors ≤ 256
  pub size : length entries ≡ length colors
  pub each : (k : ℕ) → k < length colors
      → slice_index_or entries k (record { color = []; index = 0 })
      ≡ record { color = slice_index_or colors k []; index = k }

-- the position of the cube of a code, among the cubes with a side of 8 colors
abbrev pub cube_position : ℕ → ℕ
cube_position code = code / 65536 / 8 * 1024 + code / 256 % 256 / 8 * 32 + code % 256 / 8

-- the position of the group of a code, among the groups with a side of 32 colors
abbrev pub group_position : ℕ → ℕ
group_position code = code / 65536 / 32 * 64 + code / 256 % 256 / 32 * 8 + code % 256 / 32

-- the span at a position
abbrev pub span_at : Lists → ℕ → Span
span_at lists k = slice_index_or lists.spans.items k (record { start = 0; end = 0 })

-- the entries of a span
abbrev pub listed : Lists → Span → List Entry
listed lists span = take (span.end - span.start) (drop span.start lists.entries.items)

-- the span lies in the lists, and has the nearest entry of the color
pub record HasNearest (entries : List Entry) (c : List ℕ) (lists : Lists) (span : Span)
    : Type 0 where
  pub order : span.start ≤ span.end
  pub within : span.end ≤ length lists.entries.items
  pub nearest : least_key (listed lists span) c ≡ least_key entries c

-- each span that is filled has the nearest entry of each color at its position
pub record AreLists (position : ℕ → ℕ) (entries : List Entry) (lists : Lists) : Type 0 where
  pub each : (code : ℕ) → code < code_count
      → (span_at lists (position code)).start < (span_at lists (position code)).end
      → HasNearest entries (color_of code) lists (span_at lists (position code))

-- the lists of a search are those of its entries: for each group, and for each cube
pub record IsSearch (search : Search) : Type 0 where
  pub group_count : length search.groups.spans.items ≡ 512
  pub cube_count : length search.cubes.spans.items ≡ 32768
  pub groups : AreLists group_position search.entries.items search.groups
  pub cubes : AreLists cube_position search.entries.items search.cubes

-- it is a search among these colors, and some of them is nearest to each color
pub record IsSearchOf (colors : List (List ℕ)) (search : Search) : Type 0 where
  pub lists : IsSearch search
  pub numbered : AreNumbered colors search.entries.items
  pub some : 0 < length colors → (code : ℕ) → code < code_count
      → nearest colors (color_of code) < no_entry
