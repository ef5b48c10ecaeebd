-- The properties of an image that C receives: its size, what is reported of it, the rows that were
-- released, the shape of a pixel, the background, whether its end was read, and whether it is
-- empty. Shape and background are also the parameters P1 and P2, by DEC's tables.
use Rattle.std.specs.Prelude.{Bool, cond, length}
use Rattle.sixel_base.specs.Settings.{pad_of, p1_of, p2_of}
use Rattle.icy_sixel.specs.ReceivedImages.{is_empty}
use Rattle.icy_sixel.specs.declared.receiver.received_image.ReceivedImage.{ReceivedImage}
use Rattle.icysixel.specs.declared.shape.Shape.{Shape}

-- the image has the pixels of the rows from the first one on
abbrev pub shape_of : ReceivedImage → Bool → Shape
shape_of image is_complete = record {
  width = image.width;
  height = image.height;
  drawn_height = image.drawn_height;
  raster_width = image.raster_width;
  raster_height = image.raster_height;
  first_row = image.first_row;
  bytes = length image.pixels.items;
  ignored = image.ignored_commands;
  pixel_width = 1;
  pixel_height = pad_of image.aspect_ratio;
  p1 = p1_of image.aspect_ratio;
  p2 = p2_of image.background_mode;
  is_complete = cond is_complete 1 0;
  is_empty = cond (is_empty image) 1 0;
}
