-- What a decoder reports of an image beside its pixels: its drawn height, the sizes that its raster
-- attributes name, and how many commands were ignored. The measures are this library's own. Raster
-- attributes, by DEC's manual, are in Place of sixel_base.
use Rattle.std.specs.Prelude.{ℕ, nat_lt, if◌then◌else◌, List, [], ◌∷◌}
use Rattle.sixel_base.specs.{Decoder.origin_of, DrawnHeight.image_drawn_height, Fields.field}
use Rattle.sixel_base.specs.{History.{Raster, History}, IgnoredCommands.payload_ignored}
use Rattle.sixel_base.specs.{OneShot.{Found, Payload, NoPayload}, Payload.tokens}
use Rattle.sixel_base.specs.{Place.raster_height, Stroke.Origin}
use Rattle.sixel_base.specs.declared.state.DecoderState.{DecoderState}

-- the last width that is not zero of those that raster attributes name, 0 where there is none
abbrev pub raster_width : History → ℕ
raster_width [] = 0
raster_width (Raster text ∷ older) =
    if nat_lt 0 (field text 2) then field text 2 else raster_width older
raster_width (_ ∷ older) = raster_width older

-- that width and the last such height
abbrev pub raster_size : History → ℕ × ℕ
raster_size history = (raster_width history, raster_height history)

-- how high the drawn part of an image is, the size that its raster attributes name, and how many
-- commands were ignored
pub record Report : Type 0 where
  pub drawn_height : ℕ
  pub raster : ℕ × ℕ
  pub ignored : ℕ

-- the report of the image of these tokens, beside which `ignored` tokens were ignored
abbrev pub report_of : Origin → History → ℕ → Report
report_of origin history ignored = record {
  drawn_height = image_drawn_height origin.pixel_limit origin.raster_crop history;
  raster = raster_size history;
  ignored = ignored;
}

-- that of a payload's image
abbrev pub payload_report : Origin → List ℕ → Report
payload_report origin payload =
    report_of origin (tokens origin.pixel_limit payload)
    (payload_ignored origin.pixel_limit payload)

-- the same where there is a payload
abbrev pub found_report : DecoderState → Found → Report
found_report decoder (Payload settings payload) =
    payload_report (origin_of decoder settings) payload
found_report decoder (NoPayload fault) = record { drawn_height = 0; raster = (0, 0); ignored = 0 }
