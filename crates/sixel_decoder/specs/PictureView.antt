-- The image of a decoded payload, apart from where its bytes are stored: pixels, sizes, pixel shape
-- and background mode. Which image that is, by DEC's manual, is in Payload of sixel_base.
use Rattle.std.specs.Prelude.{ℕ, List, ◌++◌}
use Rattle.sixel_base.specs.{Payload.Image, Picture.picture}
use Rattle.sixel_decoder.specs.Report.{Report}
use Rattle.sixel_decoder.specs.declared.decoded_payload.DecodedPayload.{DecodedPayload}

-- the image of the rows that are left
abbrev pub picture_value : DecodedPayload → Image
picture_value picture = record {
  pixels = picture.pixels.items;
  width = picture.width;
  height = picture.height;
  aspect_ratio = picture.aspect_ratio;
  background_mode = picture.background_mode;
}

-- the image whose first rows were released, with these pixels: they are above the rows that are
-- left
abbrev pub whole_image : (ℕ → ℕ → List ℕ) → DecodedPayload → Image
whole_image shown decoded = record {
  pixels = picture shown decoded.width decoded.first_row ++ decoded.pixels.items;
  width = decoded.width;
  height = decoded.height;
  aspect_ratio = decoded.aspect_ratio;
  background_mode = decoded.background_mode;
}

-- what is reported of it
abbrev pub picture_report : DecodedPayload → Report
picture_report picture = record {
  drawn_height = picture.drawn_height;
  raster = (picture.raster_width, picture.raster_height);
  ignored = picture.ignored;
}
