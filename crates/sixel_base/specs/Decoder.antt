-- What a decoder keeps from one image to the next: its 256 color registers, which the data define,
-- and what its host has set: whether images are cropped to their raster attributes, and which
-- pixels one may have. The last two are this library's own.
use Rattle.std.specs.Prelude.{ℕ, ◌≡◌, min, max, Bool, false}
use Rattle.sixel_base.specs.{Color.default_registers, Limits.{area_limit, side_limit, whole_limit}}
use Rattle.sixel_base.specs.{Settings.Settings, Stroke.Origin}
use Rattle.sixel_base.specs.declared.state.DecoderState.{DecoderState}

-- the limit of pixels that a host gets who asks for `pixels`: at least one, at most the limit of a
-- new decoder
abbrev pub limit_of : ℕ → ℕ
limit_of pixels = max 1 (min pixels area_limit)

-- the columns or rows of the clip that a host gets who asks for `side`: at least one, at most the
-- greatest side of an image
abbrev pub clip_side_of : ℕ → ℕ
clip_side_of side = max 1 (min side side_limit)

-- a decoder of which no call was made
abbrev pub new_decoder : DecoderState
new_decoder = record {
  registers = default_registers;
  raster_crop = false;
  pixel_limit = whole_limit;
}

-- what a picture with these settings begins from
abbrev pub origin_of : DecoderState → Settings → Origin
origin_of decoder settings = record {
  registers = decoder.registers;
  settings = settings;
  raster_crop = decoder.raster_crop;
  pixel_limit = decoder.pixel_limit;
}

-- a decoder whose images may have `pixels` pixels
abbrev pub with_pixel_limit : DecoderState → ℕ → DecoderState
with_pixel_limit decoder pixels = record decoder {
  pixel_limit = record decoder.pixel_limit { pixels = limit_of pixels };
}

-- a decoder whose images are clipped to `width` columns and `height` rows
abbrev pub with_clip : DecoderState → ℕ → ℕ → DecoderState
with_clip decoder width height = record decoder {
  pixel_limit = record decoder.pixel_limit {
    columns = clip_side_of width;
    rows = clip_side_of height;
  };
}

-- a decoder of which faulty commands are ignored in images, or not
abbrev pub with_lenient : DecoderState → Bool → DecoderState
with_lenient decoder on = record decoder {
  pixel_limit = record decoder.pixel_limit { lenient = on };
}

-- a decoder of which pixels that are not drawn are transparent in all images, or by P2
abbrev pub with_transparent : DecoderState → Bool → DecoderState
with_transparent decoder on = record decoder {
  pixel_limit = record decoder.pixel_limit { transparent = on };
}

-- a decoder of which images draw in this register until they select one
abbrev pub with_first_register : DecoderState → ℕ → DecoderState
with_first_register decoder register = record decoder {
  pixel_limit = record decoder.pixel_limit { first_register = register };
}

-- what the host has set is the same
abbrev pub IsSetAs : DecoderState → DecoderState → Type 0
IsSetAs before after =
    (after.raster_crop ≡ before.raster_crop) × (after.pixel_limit ≡ before.pixel_limit)
