-- The final rows of an open image, in the words that Receiver has for both forms, and what the
-- calls of a receiver do with rows. Which rows are final is in FinalRows of sixel_decoder.
use Rattle.std.specs.Prelude.{ℕ, ◌≡◌, ◌+◌, ◌*◌, max, nat_lt, if◌then◌else◌, List, length, Option}
use Rattle.std.specs.Prelude.{Some, None, Result, OnOk, OnErr}
use Rattle.sixel_base.specs.CallFault.{CallFault, Exactly, RowsNotFinal, RowsReleased, ShortStride}
use Rattle.sixel_base.specs.{CallFault.IsVerdict, declared.error.SixelError.SixelError}
use Rattle.sixel_base.specs.declared.error.SixelError.TheVariants.{BufferSizeMismatch}
use Rattle.sixel_base.specs.declared.error.SixelError.TheVariants.{IntegerOverflow}
use Rattle.sixel_base.specs.declared.state.DecoderState.{DecoderState}
use Rattle.sixel_decoder.specs.FinalRows.{row_count}
use Rattle.icy_sixel.specs.Receiver.{Form, Receiver, Reception, found}
pub use Rattle.sixel_canvas.specs.Layout.{AreCopied, rows_len}
pub use Rattle.sixel_canvas.specs.declared.channels.RowLayout.{RowLayout}
pub use Rattle.sixel_decoder.specs.FinalRows.{found_pixel}
pub use Rattle.sixel_decoder.specs.Reception.{final_rows}

-- how many rows of the open image are final: none after an error
abbrev pub rows_so_far : Reception → ℕ
rows_so_far image =
    row_count image.is_refused (final_rows image.start.pixel_limit image.form image.bytes)

-- the pixel at a column and a row of the picture so far: that of the image if it ended now, and
-- background outside its clip
abbrev pub pixel_so_far : DecoderState → Form → List ℕ → ℕ → ℕ → List ℕ
pixel_so_far decoder form bytes = found_pixel decoder (found form bytes)

-- the greatest number of a usize
abbrev pub usize_max : ℕ
usize_max = 0xffff_ffff_ffff_ffff

-- how many bytes these rows take in a caller's memory
abbrev pub buffer_len : RowLayout → ℕ → ℕ
buffer_len layout rows = if nat_lt 0 rows then rows_len layout rows else 0

-- what is wrong with memory of `len` bytes for `rows` rows: they overlap, no usize counts their
-- bytes, or the memory has too few
abbrev pub layout_fault : RowLayout → ℕ → ℕ → Option CallFault
layout_fault layout rows len =
    if nat_lt layout.stride (4 * max 1 layout.columns) then Some ShortStride
    else if nat_lt usize_max (buffer_len layout rows) then Some (Exactly IntegerOverflow)
    else if nat_lt len (buffer_len layout rows)
    then Some (Exactly (BufferSizeMismatch (buffer_len layout rows) len))
    else None

-- what is wrong with a copy of `rows` rows of the open image from row `first` on
abbrev pub copy_fault : Reception → ℕ → ℕ → RowLayout → ℕ → Option CallFault
copy_fault image first rows layout len =
    if nat_lt (rows_so_far image) (first + rows) then Some RowsNotFinal
    else if nat_lt first image.released then Some RowsReleased
    else layout_fault layout rows len

-- the open image after the rows above this one were released
abbrev pub with_released : Reception → ℕ → Reception
with_released image rows = record image { released = max image.released rows }

-- Rows of a picture with these pixels are copied to the caller's memory, or the call fails.
pub record IsRowCopy (fault : Option CallFault) (shown : ℕ → ℕ → List ℕ) (first rows : ℕ)
    (layout : RowLayout) (old new : List ℕ) (result : Result (Unit {0}) SixelError) : Type 0 where
  -- the call fails exactly for what is wrong with it
  pub verdict : IsVerdict fault result
  -- each byte of the memory is that of a pixel or as it was
  pub pixels : OnOk result (AreCopied shown first rows layout old new)
  -- an error leaves the memory as it was
  pub untouched : OnErr result (new ≡ old)

-- Final rows of the open image are copied.
abbrev pub AreRowsCopied : Reception → ℕ → ℕ → RowLayout → List ℕ → List ℕ
    → Result (Unit {0}) SixelError → Type 0
AreRowsCopied image first rows layout old new result =
    IsRowCopy (copy_fault image first rows layout (length old))
    (pixel_so_far image.start image.form image.bytes) first rows layout old new result

-- what is wrong with a release of the rows above this one
abbrev pub release_fault : Reception → ℕ → Option CallFault
release_fault image rows = if nat_lt (rows_so_far image) rows then Some RowsNotFinal else None

-- The rows of the open image above this one are released, or the call fails.
pub record AreRowsReleased (old new : Receiver) (rows : ℕ)
    (result : Result (Unit {0}) SixelError) : Type 0 where
  -- the call fails exactly for what is wrong with it
  pub verdict : IsVerdict (release_fault old.image rows) result
  -- the number of released rows never becomes smaller, and nothing else of the rows changes
  pub released : OnOk result (new ≡ record old { image = with_released old.image rows })
  -- an error leaves the receiver as it was
  pub unchanged : OnErr result (new ≡ old)
