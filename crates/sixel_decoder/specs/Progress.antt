-- What an image in chunks reports between two feeds: its size, and the work of its canvas. Each
-- field is one fact. The measures are in Paints and, with DEC's rules, in sixel_base.
use Rattle.std.specs.Prelude.{ℕ, ◌≡◌, ◌+◌, ◌*◌, ◌≤◌, true, false, Option, None}
use Rattle.sixel_decoder.specs.Paints.{area_of, most_row_writes, most_run_paints, most_sixel_paints}
use Rattle.sixel_decoder.specs.Reception.{Reception, band_columns, band_room, drawn_height}
use Rattle.sixel_decoder.specs.Reception.{least_band_count, least_count, least_writes, painted_area}
use Rattle.sixel_decoder.specs.Reception.{size, sixels}

-- This number of pixels was copied or filled to grow a canvas of rows.
pub record IsWriteCount (image : Reception) (writes : ℕ) : Type 0 where
  -- the number that contracts see of the image
  pub value : writes ≡ image.writes
  -- at least once the painted area
  pub at_least : image.is_refused ≡ false
      → painted_area image.start.pixel_limit image.form image.bytes ≤ writes
  -- at most three times the painted area
  pub at_most : writes ≤ 3 * painted_area image.start.pixel_limit image.form image.bytes
  -- the rows have capacity for at most twice the painted area
  pub room : image.room ≤ 2 * painted_area image.start.pixel_limit image.form image.bytes
  -- a rejected image has no canvas
  pub refused : image.is_refused ≡ true → writes ≡ 0

-- Sixels have set at most this number of pixels of a canvas of rows.
pub record IsPaintCount (image : Reception) (paints : ℕ) : Type 0 where
  -- the number that contracts see of the image
  pub value : paints ≡ image.paints
  -- at least what the closed sixels count
  pub at_least : image.is_refused ≡ false
      → least_count image.start.pixel_limit image.form image.bytes ≤ paints
  -- at most three times the painted area, and a constant for each closed sixel
  pub at_most : paints ≤ 3 * painted_area image.start.pixel_limit image.form image.bytes
      + most_sixel_paints * sixels image.form image.bytes
  -- a rejected image has no canvas
  pub refused : image.is_refused ≡ true → paints ≡ 0

-- This number of pixels was written on a canvas of one band as its rows became wider.
pub record IsBandWriteCount (image : Reception) (writes : ℕ) : Type 0 where
  -- the number that contracts see of the image
  pub value : writes ≡ image.writes
  -- at least the rows above each sixel that is more than twice as wide as the image was
  pub at_least : image.is_refused ≡ false → least_writes image.start.pixel_limit image.released
      image.form image.bytes ≤ writes
  -- at most four times the pixels of the image so far
  pub at_most : writes ≤ most_row_writes
      * area_of (size image.start.pixel_limit image.form image.bytes)
  -- a rejected image has no canvas
  pub refused : image.is_refused ≡ true → writes ≡ 0

-- Sixels have painted this number of columns and tags on a canvas of one band. A tag is the color
-- of 128 columns of a row, which are painted once the band moves down.
pub record IsBandPaintCount (image : Reception) (paints : ℕ) : Type 0 where
  -- the number that contracts see of the image
  pub value : paints ≡ image.paints
  -- at least what the closed sixels count
  pub at_least : image.is_refused ≡ false
      → least_band_count image.start.pixel_limit image.form image.bytes ≤ paints
  -- at most twice the columns of all bands, and a constant for each closed sixel
  pub at_most : paints ≤ 2 * band_columns image.start.pixel_limit image.form image.bytes
      + most_run_paints * sixels image.form image.bytes
  -- beside the image its canvas has capacity for at most this number of pixels
  pub room : image.room ≤ band_room image.start.pixel_limit image.form image.bytes
  -- a rejected image has no canvas
  pub refused : image.is_refused ≡ true → paints ≡ 0

-- The image has this size so far.
pub record IsSizeSoFar (image : Reception) (answer : Option (ℕ × ℕ)) : Type 0 where
  -- width and height of the closed sixels and raster attributes, once the payload has begun
  pub accepted : image.is_refused ≡ false
      → answer ≡ size image.start.pixel_limit image.form image.bytes
  -- a rejected image has none
  pub refused : image.is_refused ≡ true → answer ≡ None

-- The last row of the image with a set pixel, plus one, or 0 if there is none.
pub record IsDrawnHeight (image : Reception) (rows : ℕ) : Type 0 where
  -- that of the finished image, because an open command sets no pixel
  pub accepted : image.is_refused ≡ false
      → rows ≡ drawn_height image.start.pixel_limit image.form image.bytes
  -- a rejected image has none
  pub refused : image.is_refused ≡ true → rows ≡ 0
