-- An image whose colors are chosen: pixels of four bytes, and for each pixel an entry of a palette.
-- A pixel whose alpha is at least 128 is opaque, and has that entry; any other is transparent and
-- has none.
use Rattle.std.specs.Prelude.{◌≡◌, ℕ, ◌+◌, ◌*◌, ◌<◌, ◌≤◌, length, slice_index}
use Rattle.sixel_base.specs.Limits.{side_limit}
use Rattle.sixel_encoder.specs.{Text.Drawing, declared.text.IndexedImage.IndexedImage}
pub use Rattle.sixel_palette.specs.Palette.{entry_of}
pub use Rattle.sixel_encoder.specs.IndexedDrawing.{entries_of}

-- the drawing that an image is
abbrev pub drawing_of : IndexedImage → Drawing
drawing_of image = record {
  width = image.width;
  height = image.height;
  aspect_ratio = image.aspect_ratio;
  background_mode = image.background_mode;
  colors = image.colors.now;
  entries = entries_of image.pixels.now image.indices.now;
}

-- The sizes are within the limits, the lists are as long as the sizes require, and the index of an
-- opaque pixel is an entry of the palette.
pub record IsIndexed (image : IndexedImage) : Type 0 where
  pub wide : image.width ≤ side_limit
  pub high : image.height ≤ side_limit
  pub colors : length image.colors.now ≤ 256
  pub pixels : length image.pixels.now ≡ 4 * (image.width * image.height)
  pub indices : length image.indices.now ≡ image.width * image.height
  pub opaque : (pixel : ℕ) → pixel < image.width * image.height
      → 128 ≤ slice_index image.pixels.now (4 * pixel + 3)
      → slice_index image.indices.now pixel < length image.colors.now
