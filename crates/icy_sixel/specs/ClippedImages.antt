-- The image of a payload without a clip, its painted area, and the part of an image inside a clip
-- with its report. A clip is this library's own. Which pixel a picture has at a place, by DEC's
-- manual, is in Stroke of sixel_base.
use Rattle.std.specs.Prelude.{ℕ, ◌≡◌, ◌≤◌, ◌+◌, min, max, if◌then◌else◌, List, [], ◌∷◌}
use Rattle.sixel_base.specs.{Decoder.{clip_side_of, origin_of}, History.{Sixel, History}}
use Rattle.sixel_base.specs.{Limits.side_limit, OneShot.{Found, Payload, NoPayload}, Payload.Image}
use Rattle.sixel_base.specs.{Payload.{cropped_height, tokens}, Picture.{is_struck, picture, total}}
use Rattle.sixel_base.specs.{Place.{across, down, height, span, width}, Settings.mode_of}
use Rattle.sixel_base.specs.{Settings.ratio_of, Stroke.{Origin, pixel, ratio}}
use Rattle.sixel_base.specs.declared.state.DecoderState.{DecoderState}
use Rattle.sixel_decoder.specs.Report.{Report}

-- the image of a history: its whole picture, which no clip restricts
abbrev pub whole_image : Origin → History → Image
whole_image origin history = record {
  pixels =
      picture (pixel origin history) (width history) (cropped_height origin.raster_crop history);
  width = width history;
  height = cropped_height origin.raster_crop history;
  aspect_ratio = ratio (ratio_of origin.settings) history;
  background_mode = mode_of origin.settings;
}

-- the image is the whole picture of the payload
abbrev pub IsWholeImage : DecoderState → Found → Image → Type 0
IsWholeImage decoder (Payload settings payload) image =
    image ≡ whole_image (origin_of decoder settings) (tokens decoder.pixel_limit payload)
IsWholeImage decoder (NoPayload fault) image = ⊥

-- the pixel of the whole picture at a column and a row, and no byte if there is no payload
abbrev pub whole_pixel : DecoderState → Found → ℕ → ℕ → List ℕ
whole_pixel decoder (Payload settings payload) =
    pixel (origin_of decoder settings) (tokens decoder.pixel_limit payload)
whole_pixel decoder (NoPayload fault) = λ column row. []

-- the greatest right edge of a sixel that covers a pixel of the row in the whole picture
abbrev pub whole_row_extent : History → ℕ → ℕ
whole_row_extent [] row = 0
whole_row_extent (Sixel bits ∷ older) row =
    if is_struck (down older) bits row
    then max (whole_row_extent older row) (across older + span older)
    else whole_row_extent older row
whole_row_extent (_ ∷ older) row = whole_row_extent older row

-- the sum over all rows: the painted area of the whole picture
abbrev pub whole_painted_area : History → ℕ
whole_painted_area history = total (whole_row_extent history) (height history)

-- the decoder clips no image, as a new one
pub record HasNoClip (decoder : DecoderState) : Type 0 where
  pub columns : side_limit ≤ decoder.pixel_limit.columns
  pub rows : side_limit ≤ decoder.pixel_limit.rows

-- a clip of this width and height is inside that of the decoder
pub record IsInsideClip (decoder : DecoderState) (width height : ℕ) : Type 0 where
  pub columns : clip_side_of width ≤ decoder.pixel_limit.columns
  pub rows : clip_side_of height ≤ decoder.pixel_limit.rows

-- the report of the part of an image inside a clip: nothing is drawn below it
abbrev pub part_report : Report → ℕ → Report
part_report report rows = record report {
  drawn_height = min report.drawn_height (clip_side_of rows);
}

-- The part of an image inside a clip of `columns` and `rows`: both images have the same pixel at
-- each column and row that the part has.
pub record IsPartInside (pixel : ℕ → ℕ → List ℕ) (columns rows : ℕ) (image part : Image)
    : Type 0 where
  pub width : part.width ≡ min image.width (clip_side_of columns)
  pub height : part.height ≡ min image.height (clip_side_of rows)
  pub image_pixels : image.pixels ≡ picture pixel image.width image.height
  pub part_pixels : part.pixels ≡ picture pixel part.width part.height
  pub aspect_ratio : part.aspect_ratio ≡ image.aspect_ratio
  pub background_mode : part.background_mode ≡ image.background_mode
