-- The state of the writer of a compact text. It is internal to the encoder: the compact text of a
-- drawing defines its output.
use Rattle.std.specs.Prelude.{◌≡◌, ℕ, ◌+◌, ◌*◌, ◌<◌, ◌≤◌, ◌⊎◌, List, length, slice_index}
use Rattle.std.specs.Prelude.{slice_index_or, Option, Some, None, [], ◌∷◌, ◌==◌, ◌&&◌, nat_lt}
use Rattle.std.specs.Prelude.{if◌then◌else◌}
use Rattle.sixel_encoder.specs.declared.band_entries.BandEntries.{BandEntries}
use Rattle.sixel_encoder.specs.declared.{compact.BandWriter.BandWriter, segments.Segment.Segment}
use Rattle.sixel_encoder.specs.declared.text.IndexedImage.{IndexedImage}
use Rattle.sixel_encoder.specs.{Compact.Drawn, RegisterOrder.{number_of, rank, runs_of}}
use Rattle.sixel_encoder.specs.Text.{Drawing, entry_at}
use Rattle.sixel_encoder.specs.inside.Indexed.{IsIndexed, drawing_of}

-- segment k of a list
abbrev pub nth : List Segment → ℕ → Segment
nth segments k = slice_index_or segments k record { entry = 0; first = 0; end = 0 }

-- how many runs each entry has
pub record AreRuns (drawing : Drawing) (runs : List ℕ) : Type 0 where
  pub size : length runs ≡ length drawing.colors
  pub each : (entry : ℕ) → entry < length drawing.colors
      → slice_index runs entry ≡ runs_of drawing entry

-- the rank of each entry by its runs
pub record AreRanks (runs numbers : List ℕ) : Type 0 where
  pub size : length numbers ≡ length runs
  pub each : (entry : ℕ) → entry < length runs
      → slice_index numbers entry ≡ rank (slice_index runs) (length runs) entry

-- the segments after a run of pixels of one entry: the first near segment of the entry goes on to
-- the end of the run, else the run is a new one
abbrev pub with_run : ℕ → Segment → List Segment → List Segment
with_run gap run [] = run ∷ []
with_run gap run (segment ∷ segments) =
    if segment.entry == run.entry && nat_lt run.first (segment.end + gap)
    then record { entry = segment.entry; first = segment.first; end = run.end } ∷ segments
    else segment ∷ with_run gap run segments

-- The last segment of each entry, by its index. Each other segment ended a gap before the column.
pub record AreLast (segments : List Segment) (last : List (Option ℕ)) (gap column : ℕ)
    : Type 0 where
  pub known : (entry k : ℕ) → slice_index_or last entry None ≡ Some k
      → (k < length segments) × ((nth segments k).entry ≡ entry)
  pub closed : (k : ℕ) → k < length segments
      → (slice_index_or last (nth segments k).entry None ≡ Some k)
      ⊎ ((nth segments k).end + gap ≤ column)
  pub ended : (k : ℕ) → k < length segments → (nth segments k).end ≤ column + 1

-- the lane of a pixel: its entry, or 256 if it is transparent
abbrev pub lane_of : Option ℕ → ℕ
lane_of None = 256
lane_of (Some entry) = entry

-- There are eight lanes for each column, and the last two are transparent.
pub record AreSpare (image : IndexedImage) (lanes : List ℕ) : Type 0 where
  pub size : length lanes ≡ 8 * image.width
  pub spare : (column bit : ℕ) → column < image.width → 6 ≤ bit → bit < 8
      → slice_index lanes (8 * column + bit) ≡ 256

-- The first six lanes of a column are its pixels in the band.
pub record AreLanes (entries : BandEntries) : Type 0 where
  pub indexed : IsIndexed entries.image.now
  pub spare : AreSpare entries.image.now entries.lanes.items
  pub pixels : (column bit : ℕ) → column < entries.image.now.width → bit < 6
      → slice_index entries.lanes.items (8 * column + bit)
      ≡ lane_of (entry_at (drawing_of entries.image.now) column (6 * entries.band + bit))

-- the segment has an entry and columns of the drawing
pub record IsSegment (drawing : Drawing) (segment : Segment) : Type 0 where
  pub known : segment.entry < length drawing.colors
  pub some : segment.first < segment.end
  pub wide : segment.end ≤ drawing.width

-- the register of each entry of the image
pub record AreNumbersOf (image : IndexedImage) (numbers : List ℕ) : Type 0 where
  pub size : length numbers ≡ length image.colors.now
  pub each : (entry : ℕ) → entry < length image.colors.now
      → slice_index numbers entry ≡ number_of (drawing_of image) entry

-- the writer has lanes and rows as wide as the image, and the register of each entry
pub record IsWriter (writer : BandWriter) : Type 0 where
  pub indexed : IsIndexed writer.entries.image.now
  pub spare : AreSpare writer.entries.image.now writer.entries.lanes.items
  pub numbered : AreNumbersOf writer.entries.image.now writer.numbers.now
  pub wide : length writer.rows.blocked.items ≡ writer.entries.image.now.width

-- what the writer has drawn of a band
abbrev pub drawn_so_far : BandWriter → Drawn
drawn_so_far writer = record {
  column = writer.pen.column;
  register = writer.pen.register;
  blocked = writer.rows.blocked.items;
}
