-- How rows of pixels lie in a caller's memory: each row begins a stride after the one before it.
-- The bytes of a pixel are in the order of the image, or with blue and red exchanged. The layout is
-- this library's own.
use Rattle.std.specs.Prelude.{◌≡◌, ℕ, ◌+◌, ◌-◌, ◌*◌, ◌/◌, ◌%◌, ◌≤◌, ◌<◌, nat_lt, ◌&&◌, max}
use Rattle.std.specs.Prelude.{List, [], ◌∷◌, drop, slice_index, take, if◌then◌else◌}
use Rattle.sixel_canvas.specs.declared.channels.ChannelOrder.{ChannelOrder}
use Rattle.sixel_canvas.specs.declared.channels.ChannelOrder.TheVariants.{Rgba, Bgra}
use Rattle.sixel_canvas.specs.declared.channels.RowLayout.{RowLayout}

-- the bytes of a pixel in this order
abbrev pub in_order : ChannelOrder → List ℕ → List ℕ
in_order Rgba pixel = pixel
in_order Bgra pixel =
    slice_index pixel 2 ∷ slice_index pixel 1 ∷ slice_index pixel 0 ∷ slice_index pixel 3 ∷ []

-- the bytes of the pixel at this index
abbrev pub pixel_at : List ℕ → ℕ → List ℕ
pixel_at bytes i = take 4 (drop (4 * i) bytes)

-- the pixel at this place of rows that are stored without gaps, and background elsewhere
abbrev pub stored_pixel : List ℕ → ℕ → ℕ → List ℕ → ℕ → ℕ → List ℕ
stored_pixel bytes width rows background column row =
    if nat_lt column width && nat_lt row rows then pixel_at bytes (row * width + column)
    else background

-- how many bytes these rows take: a stride for each row but the last
abbrev pub rows_len : RowLayout → ℕ → ℕ
rows_len layout rows = (rows - 1) * layout.stride + 4 * layout.columns

-- `rows` rows lie apart from each other, in `len` bytes
pub record AreRowsIn (layout : RowLayout) (rows len : ℕ) : Type 0 where
  pub apart : 4 * max 1 layout.columns ≤ layout.stride
  pub within : 0 < rows → rows_len layout rows ≤ len

-- a byte of a row of the memory once rows of pixels were copied there: that of the pixel, or the
-- byte that was there right of the pixels and below the rows
abbrev pub copied_byte : (ℕ → ℕ → List ℕ) → ℕ → ℕ → RowLayout → List ℕ → ℕ → ℕ → ℕ
copied_byte shown first rows layout old row byte =
    if nat_lt row rows && nat_lt byte (4 * layout.columns)
    then slice_index (in_order layout.order (shown (byte / 4) (first + row))) (byte % 4)
    else slice_index old (row * layout.stride + byte)

-- rows of pixels from this row on were copied: each byte of the memory, as one of a row of it
abbrev pub AreCopied : (ℕ → ℕ → List ℕ) → ℕ → ℕ → RowLayout → List ℕ → List ℕ → Type 0
AreCopied shown first rows layout old new =
    (row byte : ℕ) → byte < layout.stride
    → slice_index new (row * layout.stride + byte)
    ≡ copied_byte shown first rows layout old row byte
