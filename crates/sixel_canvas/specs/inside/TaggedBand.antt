-- What a band shows some of whose tiles are tagged: a tag is the color of a tile of 128 columns
-- of a row, over what is stored there. The rule is this library's own: a wide run over columns that
-- were drawn on tags the tiles that it covers whole.
use Rattle.std.specs.Prelude.{◌≡◌, ℕ, ◌+◌, ◌-◌, ◌*◌, ◌/◌, ◌≤◌, List, min}
use Rattle.sixel_canvas.specs.inside.{Band.{BandState, IsBand, cell}, Tags.{no_tag, under}}

-- the pixels, a tag for each tile of columns, and how many columns and tags were painted
pub record TaggedState : Type 0 where
  pub pixels : BandState
  pub tags : BandState
  pub painted : ℕ

-- the band with these parts
abbrev pub tagged_state : BandState → BandState → ℕ → TaggedState
tagged_state pixels tags painted = record { pixels = pixels; tags = tags; painted = painted }

-- the pixel at a column of row k
abbrev pub tagged_cell : TaggedState → ℕ → ℕ → List ℕ
tagged_cell band column k = under (cell band.tags (column / 128) k) (cell band.pixels column k)

-- for how many columns and tags each of its six rows has memory
abbrev pub capacity : TaggedState → ℕ
capacity band = band.pixels.cap + band.tags.cap

-- the columns that a band has memory for after it was too small with this memory, at least: nearly
-- twice as many, or those of the widest image, so that columns seldom move
abbrev pub doubled : ℕ → ℕ
doubled cap = min 1000008 (2 * cap - cap / 32)

-- what is true of every band with tags: each tagged tile was drawn on whole
pub record IsTaggedBand (band : TaggedState) : Type 0 where
  pub pixels : IsBand band.pixels
  pub tags : IsBand band.tags
  pub clear : band.tags.background ≡ no_tag
  pub room : band.pixels.cap ≤ 128 * band.tags.cap
  pub few_tags : band.tags.cap ≤ (band.pixels.cap + 127) / 128
  pub whole : 128 * band.tags.extent ≤ band.pixels.extent

-- The background and the memory are the same.
pub record HasSameRoom (old new : TaggedState) : Type 0 where
  pub background : new.pixels.background ≡ old.pixels.background
  pub cap : new.pixels.cap ≡ old.pixels.cap
  pub tags_cap : new.tags.cap ≡ old.tags.cap

-- what a run over `columns` paints at most beside the columns past all that was drawn on: one tag
-- per tile, two ends, and what is painted of tagged tiles that it covers in part
abbrev pub most_painted : ℕ → ℕ
most_painted columns = columns / 128 + 640
