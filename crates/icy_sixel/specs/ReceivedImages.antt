-- An image that a receiver has finished. Rows that were released are the caller's: the pixels are
-- those of the rows below them. Which image that is, by DEC's manual, is in Payload of sixel_base.
use Rattle.std.specs.Prelude.{ℕ, ◌≡◌, ◌+◌, ◌-◌, ◌*◌, ◌==◌, max, min, nat_lt, Bool, ◌&&◌}
use Rattle.std.specs.Prelude.{if◌then◌else◌, List, [], ◌∷◌, ◌++◌, take, Option, Some}
use Rattle.sixel_base.specs.{CallFault.{CallFault, RowsNotFinal, RowsReleased}, Payload.Image}
use Rattle.sixel_base.specs.Picture.{picture}
use Rattle.sixel_canvas.specs.{Layout.stored_pixel, declared.channels.RowLayout.RowLayout}
use Rattle.icy_sixel.specs.{ImageView.image_value, ReceivedRows.layout_fault}
use Rattle.icy_sixel.specs.declared.receiver.received_image.Height.{Height}
use Rattle.icy_sixel.specs.declared.receiver.received_image.Height.TheVariants.{Bands, Raster}
use Rattle.icy_sixel.specs.declared.receiver.received_image.Height.TheVariants.{Drawn}
use Rattle.icy_sixel.specs.declared.receiver.received_image.ReceivedImage.{ReceivedImage}
use Rattle.icy_sixel.specs.declared.sixel_image.SixelImage.{SixelImage}
pub use Rattle.sixel_decoder.specs.Report.{Report, found_report}

-- the whole image, whose picture has these pixels: the released rows are above those that are left
abbrev pub whole_value : (ℕ → ℕ → List ℕ) → ReceivedImage → Image
whole_value shown image = record {
  pixels = picture shown image.width image.first_row ++ image.pixels.items;
  width = image.width;
  height = image.height;
  aspect_ratio = image.aspect_ratio;
  background_mode = image.background_mode;
}

-- the image of the rows that are left
abbrev pub left_image : ReceivedImage → SixelImage
left_image image = record {
  pixels = image.pixels;
  width = image.width;
  height = image.height;
  aspect_ratio = image.aspect_ratio;
  background_mode = image.background_mode;
}

abbrev pub left_value : ReceivedImage → Image
left_value image = image_value (left_image image)

-- what is reported of the image beside its pixels
abbrev pub received_report : ReceivedImage → Report
received_report image = record {
  drawn_height = image.drawn_height;
  raster = (image.raster_width, image.raster_height);
  ignored = image.ignored_commands;
}

-- whether no pixel is set and no raster attributes name a height
abbrev pub is_empty : ReceivedImage → Bool
is_empty image = (image.drawn_height == 0) && (image.raster_height == 0)

-- the pixel at this place of the rows that are left, and a transparent one right of the image
abbrev pub received_pixel : ReceivedImage → ℕ → ℕ → List ℕ
received_pixel image column row =
    stored_pixel image.pixels.items image.width (image.height - image.first_row)
    (0 ∷ 0 ∷ 0 ∷ 0 ∷ []) column (row - image.first_row)

-- what is wrong with a copy of `rows` rows of the image from row `first` on
abbrev pub received_fault : ReceivedImage → ℕ → ℕ → RowLayout → ℕ → Option CallFault
received_fault image first rows layout len =
    if nat_lt image.height (first + rows) then Some RowsNotFinal
    else if nat_lt first image.first_row then Some RowsReleased
    else layout_fault layout rows len

-- where an image ends that is cropped to this height
abbrev pub end_of : ReceivedImage → Height → ℕ
end_of image Bands = image.height
end_of image Raster = if image.raster_height == 0 then image.height else image.raster_height
end_of image Drawn = max image.raster_height image.drawn_height

-- The second image is the first one, ended at this height if it is higher.
pub record IsCropped (whole image : ReceivedImage) (end : Height) : Type 0 where
  pub height : image.height ≡ min whole.height (end_of whole end)
  -- the rows that were released and those that are left
  pub first : image.first_row ≡ min whole.first_row image.height
  pub pixels : image.pixels.items
      ≡ take (4 * (image.width * (image.height - image.first_row))) whole.pixels.items
  pub drawn : image.drawn_height ≡ min whole.drawn_height image.height
  -- the rest stays
  pub width : image.width ≡ whole.width
  pub raster_width : image.raster_width ≡ whole.raster_width
  pub raster_height : image.raster_height ≡ whole.raster_height
  pub ignored : image.ignored_commands ≡ whole.ignored_commands
  pub aspect_ratio : image.aspect_ratio ≡ whole.aspect_ratio
  pub background_mode : image.background_mode ≡ whole.background_mode
