-- What a row shows some of whose tiles are tagged: a tag is the color of a tile of 128 columns,
-- over what is stored there. The rule is this library's own: a wide run over columns that were
-- drawn on tags the tiles that it covers whole.
use Rattle.std.specs.Prelude.{◌≡◌, ℕ, ◌*◌, ◌/◌, ◌<◌, ◌≤◌, ◌⊎◌, false, List, length, slice_index_or}
use Rattle.sixel_canvas.specs.{Row.{RowState, IsThrifty, empty_row}}
use Rattle.sixel_canvas.specs.inside.Tags.{is_tag, no_tag, under}

-- the pixels, a tag for each tile of columns, and how many pixels wide runs have painted past all
-- that was drawn on
pub record TaggedRowState : Type 0 where
  pub row : RowState
  pub tags : RowState
  pub appended : ℕ

-- the row with these parts
abbrev pub tagged_row_state : RowState → RowState → ℕ → TaggedRowState
tagged_row_state row tags appended = record { row = row; tags = tags; appended = appended }

-- a row with no pixel
abbrev pub empty_tagged_row : List ℕ → TaggedRowState
empty_tagged_row background = tagged_row_state (empty_row background) (empty_row no_tag) 0

-- the tag of a tile, which is none where no memory was made for it
abbrev pub tag_of : TaggedRowState → ℕ → List ℕ
tag_of line tile = slice_index_or line.tags.pixels tile no_tag

-- the pixel at this column
abbrev pub tagged_pixel : TaggedRowState → ℕ → List ℕ
tagged_pixel line column =
    under (tag_of line (column / 128)) (slice_index_or line.row.pixels column line.row.background)

-- What is true of every row with tags: there are at most as many as whole tiles were drawn on, and
-- so each tagged tile was drawn on whole.
pub record IsTaggedRow (line : TaggedRowState) : Type 0 where
  pub row : IsThrifty line.row
  pub tags : IsThrifty line.tags
  pub clear : line.tags.background ≡ no_tag
  pub whole : 128 * length line.tags.pixels ≤ length line.row.pixels
  pub appended : line.appended ≤ length line.row.pixels

-- The tag of a tile was painted, except in the columns from .. up to before to, and taken off.
pub record IsUntagged (old new : TaggedRowState) (tile from to : ℕ) : Type 0 where
  pub outside : (column : ℕ) → (column < from) ⊎ (to ≤ column)
      → tagged_pixel new column ≡ tagged_pixel old column
  pub untagged : is_tag (tag_of new tile) ≡ false
  pub others : (other : ℕ) → (other ≡ tile → ⊥) → tag_of new other ≡ tag_of old other
  pub len : length new.row.pixels ≡ length old.row.pixels
  pub tags_len : length new.tags.pixels ≡ length old.tags.pixels
  pub background : new.row.background ≡ old.row.background
  pub sound : IsTaggedRow new
