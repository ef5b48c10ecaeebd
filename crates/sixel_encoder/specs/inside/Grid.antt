-- The rows of sixels of one band: those of some entries from one on, entry after entry, and which
-- of them have a set pixel. They are internal to the encoder: the text of a drawing defines its
-- output.
use Rattle.std.specs.{List.range_with_len, Prelude.{◌≡◌, ℕ, ◌+◌, ◌*◌, ◌<◌, ◌≤◌, ◌==◌, Bool, true}}
use Rattle.std.specs.Prelude.{false, ◌&&◌, if◌then◌else◌, List, [], length, map, slice_index}
use Rattle.std.specs.Prelude.{slice_index_or, Option, nat_lt}
use Rattle.sixel_palette.specs.Palette.{entry_of}
use Rattle.sixel_encoder.specs.{Text.{is_entry, has_dot, row_text}, declared.band.BandRows.BandRows}
use Rattle.sixel_encoder.specs.{declared.band.Line.Line, declared.text.IndexedImage.IndexedImage}

-- the sixel of an entry in a column
abbrev pub cell : List ℕ → ℕ → ℕ → ℕ → ℕ
cell rows width entry column = slice_index rows (entry * width + column)

-- what an entry's row has
abbrev pub grid_row : List ℕ → ℕ → ℕ → List ℕ
grid_row rows width entry = map (cell rows width entry) (range_with_len 0 width)

-- the text of an entry's row, if it has a set pixel
abbrev pub grid_text : List ℕ → ℕ → ℕ → ℕ → List ℕ
grid_text rows width first entry =
    if has_dot (grid_row rows width entry) then row_text (first + entry) (grid_row rows width entry)
    else []

-- the weight in this entry and column, else 0
abbrev pub dot_at : ℕ → ℕ → ℕ → ℕ → ℕ → ℕ
dot_at weight entry column e x = if e == entry && x == column then weight else 0

-- what a pixel adds to an entry's sixel: its line's weight if the pixel has the entry
abbrev pub pixel_bit : ℕ → ℕ → Option ℕ → ℕ
pixel_bit weight e place = if is_entry e place then weight else 0

-- the amount from one place up to another, else 0
abbrev pub between : ℕ → ℕ → ℕ → ℕ → ℕ
between from to amount place =
    if nat_lt place from then 0 else (if nat_lt place to then amount else 0)

-- the pixels of a line are set too, from one column up to another
abbrev pub HasColumns : IndexedImage → Line → ℕ → ℕ → List ℕ → List ℕ → Type 0
HasColumns image line from to rows new =
    (e x : ℕ) → e < length image.colors.now → x < image.width
    → cell new image.width e x ≡ cell rows image.width e x
    + between from to (pixel_bit line.weight e
    (entry_of image.pixels.now image.indices.now (line.start + x))) x

-- `count` entries from `first` on are a part of all entries: the first is one of them, and it is 0
-- if these are all entries.
pub record IsPart (first count entries : ℕ) : Type 0 where
  pub some : first < entries
  pub few : count ≤ entries
  pub whole : count ≡ entries → first ≡ 0

-- the rows have a place for each entry and column, where each entry has a mark
abbrev pub AreRows : List ℕ → List Bool → ℕ → Type 0
AreRows rows used width = length rows ≡ length used * width

-- each sixel is below the limit
abbrev pub AreBelow : List ℕ → ℕ → ℕ → ℕ → Type 0
AreBelow rows width count limit =
    (entry column : ℕ) → entry < count → column < width → cell rows width entry column < limit

-- an entry is marked exactly if its row has a set pixel
pub record AreMarks (rows : List ℕ) (used : List Bool) (width : ℕ) : Type 0 where
  pub dotted : (entry : ℕ) → entry < length used → slice_index_or used entry false ≡ true
      → (column : ℕ) × (column < width) × (0 < cell rows width entry column)
  pub marked : (entry column : ℕ) → entry < length used → column < width
      → 0 < cell rows width entry column → slice_index_or used entry false ≡ true

-- no entry before this one has a set pixel or a mark
pub record AreClear (rows : List ℕ) (used : List Bool) (width entries : ℕ) : Type 0 where
  pub blank : (entry column : ℕ) → entry < entries → column < width
      → cell rows width entry column ≡ 0
  pub unused : (entry : ℕ) → entry < entries → slice_index_or used entry false ≡ false

-- The rows are empty. They are as wide as the image, those of at least one entry and of no more
-- than there are, and take at most 2 MiB with their marks.
pub record AreEmptyRows (image : IndexedImage) (band : BandRows) : Type 0 where
  pub wide : band.width ≡ image.width
  pub some : 0 < length band.used.items
  pub few : 0 < length image.colors.now → length band.used.items ≤ length image.colors.now
  pub size : length band.rows.items + length band.used.items ≤ 2097152
  pub places : AreRows band.rows.items band.used.items image.width
  pub clear : AreClear band.rows.items band.used.items image.width (length band.used.items)

-- the rows have the same sizes, and are those of the same entries
pub record IsSameShape (old new : BandRows) : Type 0 where
  pub wide : new.width ≡ old.width
  pub from : new.first ≡ old.first
  pub sixels : length new.rows.items ≡ length old.rows.items
  pub marks : length new.used.items ≡ length old.used.items
