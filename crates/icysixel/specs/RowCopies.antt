-- Rows of pixels in the caller's memory, as C sees them: the layout that C passes, and what the
-- calls do. The numbers are this library's own, and include/icysixel.h names them. The words for
-- final rows are those of the receiver.
use Rattle.std.specs.Prelude.{ℕ, ◌≡◌, ◌≢◌, ◌*◌, ◌/◌, ◌%◌, ◌<◌, ◌==◌, min, if◌then◌else◌, List, Bool}
use Rattle.std.specs.Prelude.{nat_le, length, slice_index, true, false, Option, Some, None}
use Rattle.std.specs.Prelude.{unwrap_or, Result, MatchResult}
use Rattle.sixel_base.specs.CallFault.{CallFault, IsCallFault, RowsNotFinal, RowsReleased}
use Rattle.sixel_base.specs.{CallFault.ShortStride, declared.error.SixelError.SixelError}
use Rattle.sixel_base.specs.declared.error.SixelError.TheVariants.{BufferSizeMismatch}
use Rattle.sixel_base.specs.declared.error.SixelError.TheVariants.{IntegerOverflow}
use Rattle.icy_sixel.specs.{ReceivedImages.{received_fault, received_pixel}, ReceivedRows.IsRowCopy}
use Rattle.icy_sixel.specs.ReceivedRows.{RowLayout, copy_fault, pixel_so_far, usize_max}
use Rattle.icy_sixel.specs.Receiver.{Reception, is_open, size}
use Rattle.icy_sixel.specs.declared.receiver.received_image.ReceivedImage.{ReceivedImage}
use Rattle.sixel_canvas.specs.Layout.{in_order, pixel_at}
use Rattle.sixel_canvas.specs.declared.channels.ChannelOrder.{ChannelOrder}
use Rattle.sixel_canvas.specs.declared.channels.ChannelOrder.TheVariants.{Rgba, Bgra}
use Rattle.icysixel.specs.{Changes.AreKept, Rows.stride_of, declared.layout.Layout.Layout}
use Rattle.icysixel.specs.declared.state.State.{State}
use Rattle.icy_sixel.specs.ReceivedRows as receivers

-- whether the header names an order of channels
abbrev pub is_order : ℕ → Bool
is_order order = nat_le order 1

-- 0 is RGBA, and 1 BGRA
abbrev pub order_of : ℕ → ChannelOrder
order_of order = if order == 0 then Rgba else Bgra

-- how many pixels of a row are written, where 0 means the whole width
abbrev pub columns_of : ℕ → ℕ → ℕ
columns_of width columns = if columns == 0 then width else columns

-- the layout that C passes for an image of this width, where a stride of 0 means rows without gaps
abbrev pub layout_of : ℕ → Layout → RowLayout
layout_of width layout = record {
  stride = stride_of layout.stride (min (4 * columns_of width layout.columns) usize_max);
  columns = columns_of width layout.columns;
  order = order_of layout.order;
}

-- The code of an error about rows and a buffer for them: rows that are not final or were released,
-- a stride that is shorter than a row, rows that overflow, or a buffer that is too small.
pub record IsRowsCode (error : SixelError) (code : ℕ) : Type 0 where
  pub not_final : IsCallFault error RowsNotFinal → code ≡ 22
  pub released : IsCallFault error RowsReleased → code ≡ 23
  pub short : IsCallFault error ShortStride → code ≡ 7
  pub overflow : error ≡ IntegerOverflow → code ≡ 9
  pub small : (expected actual : ℕ) → error ≡ BufferSizeMismatch expected actual → code ≡ 6
  pub refused : code ≢ 0

-- a call on rows with this result returns code 0, or that of the error
abbrev pub IsRowsResult : Result (Unit {0}) SixelError → ℕ → Type 0
IsRowsResult result code = MatchResult result (λ _. code ≡ 0) (λ error. IsRowsCode error code)

-- how many columns an open image has so far: none before its payload and after an error
abbrev pub columns_so_far : Reception → ℕ
columns_so_far image =
    (unwrap_or (if image.is_refused then None
    else size image.start.pixel_limit image.form image.bytes) (0, 0)).0

-- Rows of a picture with these pixels were copied: what the copy returned.
pub record AreCopiedRows (fault : Option CallFault) (shown : ℕ → ℕ → List ℕ) (first rows : ℕ)
    (layout : RowLayout) (old new : List ℕ) (code : ℕ) : Type 0 where
  pub result : Result (Unit {0}) SixelError
  pub copied : IsRowCopy fault shown first rows layout old new result
  pub told : IsRowsResult result code

-- Final rows of the open image were copied to the caller's memory, or the code is that of an error.
pub record AreRowsCopied (state : State) (first rows : ℕ) (layout : Layout)
    (old new : List ℕ) (code : ℕ) : Type 0 where
  pub closed : is_open state.receiver.image.form ≡ false → code ≡ 2
  pub opened : is_open state.receiver.image.form ≡ true → AreCopiedRows
      (copy_fault state.receiver.image first rows
      (layout_of (columns_so_far state.receiver.image) layout) (length old))
      (pixel_so_far state.receiver.image.start state.receiver.image.form state.receiver.image.bytes)
      first rows (layout_of (columns_so_far state.receiver.image) layout) old new code

-- The rows of the open image above this one were released: what the receiver returned.
pub record AreReleasedRows (before after : State) (rows code : ℕ) : Type 0 where
  pub result : Result (Unit {0}) SixelError
  pub released : receivers.AreRowsReleased before.receiver after.receiver rows result
  pub told : IsRowsResult result code

-- The rows of the open image above this one were released, or the code is that of an error.
pub record AreRowsReleased (before after : State) (rows code : ℕ) : Type 0 where
  pub closed : is_open before.receiver.image.form ≡ false → code ≡ 2
  pub unchanged : is_open before.receiver.image.form ≡ false → after.receiver ≡ before.receiver
  pub kept : AreKept before after
  pub opened : is_open before.receiver.image.form ≡ true → AreReleasedRows before after rows code

-- Rows of the stored image were copied to the caller's memory, or the code is that of an error.
pub record ArePixelsCopied (state : State) (first rows : ℕ) (layout : Layout)
    (old new : List ℕ) (code : ℕ) : Type 0 where
  pub no_image : state.image ≡ None → code ≡ 4
  pub stored : (image : ReceivedImage) → state.image ≡ Some image → AreCopiedRows
      (received_fault image first rows (layout_of image.width layout) (length old))
      (received_pixel image) first rows (layout_of image.width layout) old new code

-- the bytes are those of these pixels, in this order of channels
pub record AreInOrder (order : ℕ) (pixels bytes : List ℕ) : Type 0 where
  pub len : length bytes ≡ length pixels
  pub ordered : (i : ℕ) → i < length pixels → slice_index bytes i
      ≡ slice_index (in_order (order_of order) (pixel_at pixels (i / 4))) (i % 4)

-- The pixels of the stored image were transferred in this order, or the code is that of no image.
pub record ArePixelsTaken (before after : State) (order : ℕ) (bytes : List ℕ) (code : ℕ)
    : Type 0 where
  pub no_image : before.image ≡ None → code ≡ 4
  pub done : (image : ReceivedImage) → before.image ≡ Some image → code ≡ 0
  pub pixels : (image : ReceivedImage) → before.image ≡ Some image
      → AreInOrder order image.pixels.items bytes
  pub taken : after.image ≡ None
  pub receiver : after.receiver ≡ before.receiver
  pub height : after.height ≡ before.height
