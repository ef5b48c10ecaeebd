-- The image that a decoder returns, apart from where its bytes are stored: pixels, sizes, pixel
-- shape and background mode. Which image that is, by DEC's manual, is in Payload of sixel_base.
use Rattle.sixel_base.specs.Payload.{Image}
use Rattle.icy_sixel.specs.declared.sixel_image.SixelImage.{SixelImage}

-- an image apart from where its bytes are stored
abbrev pub image_value : SixelImage → Image
image_value image = record {
  pixels = image.pixels.items;
  width = image.width;
  height = image.height;
  aspect_ratio = image.aspect_ratio;
  background_mode = image.background_mode;
}
