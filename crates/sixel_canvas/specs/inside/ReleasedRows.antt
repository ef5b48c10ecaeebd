-- The rows of an image that a canvas released: a caller has copied them, and no memory has their
-- bytes any more. Proofs still name them, because the picture has them. This library's own.
use Rattle.std.specs.Prelude.{ℕ, ◌*◌, List, [], length, take, drop, slice_index_or, nat_lt}
use Rattle.std.specs.Prelude.{if◌then◌else◌}
use Rattle.sixel_canvas.specs.{Layout.pixel_at, inside.RowsState.RowsState}

-- the bytes of a row, and none where there is no such row
abbrev pub row_bytes : RowsState → ℕ → List ℕ
row_bytes rows row =
    if nat_lt row rows.rows then take (4 * rows.width) (drop (4 * (row * rows.width)) rows.bytes)
    else []

-- the pixel at a column of a row of these bytes, and background right of them
abbrev pub row_pixel : List ℕ → List ℕ → ℕ → List ℕ
row_pixel bytes background column =
    if nat_lt (4 * column) (length bytes) then pixel_at bytes column else background

-- the pixel at a column of a released row
abbrev pub released_pixel : List (List ℕ) → List ℕ → ℕ → ℕ → List ℕ
released_pixel gone background column row =
    row_pixel (slice_index_or gone row []) background column
