-- An image under a clip is the part of the image inside the clip. Without a clip the size and the
-- painted area are those of the whole picture.
use Rattle.std.proofs.Common.{◌≡◌, ℕ, ◌≤◌, [], ◌∷◌, refl, None, arith, List, ◌∙◌}
use Rattle.std.proofs.lemmas.Bool.Decides.{nat_tests}
use Rattle.sixel_base.specs.{Clip.{clipped_height, clipped_width}, History.{History, history_of}}
use Rattle.sixel_base.specs.{Limits.{Limit, side_limit}, Payload.{tokens, first_fault, Image}}
use Rattle.sixel_base.specs.{Payload.{cropped_height, image_height, image_of}, Place.{height, span}}
use Rattle.sixel_base.specs.{Place.width, declared.state.DecoderState.DecoderState, Bytes.front}
use Rattle.sixel_base.specs.{IgnoredCommands.payload_ignored, OneShot.{found_fault, Found, Payload}}
use Rattle.sixel_base.specs.OneShot.{NoPayload, AreFoundRegisters, IsFoundImage}
use Rattle.sixel_base.specs.{Settings.Settings, Stroke.{Origin, pixel}, PaintedArea.painted_area}
use Rattle.sixel_base.specs.{PaintedArea.row_extent, Decoder.{clip_side_of, origin_of, with_clip}}
use Rattle.sixel_canvas.proofs.{Pictures.picture_same, Totals.total-same}
use Rattle.sixel_decoder.proofs.drawing.RowExtents.{both_none, sides-fit, cropped_height-most}
use Rattle.icy_sixel.specs.ClippedImages.{HasNoClip, whole_painted_area, whole_row_extent}
use Rattle.icy_sixel.specs.ClippedImages.{IsInsideClip, IsPartInside, IsWholeImage, part_report}
use Rattle.icy_sixel.specs.ClippedImages.{whole_image, whole_pixel}
use Rattle.sixel_base.proofs.ToleratedTokens.{effective-fault, registers-effective}
use Rattle.sixel_decoder.specs.Report.{found_report}

-- ---- the size

pub size_whole : (decoder : DecoderState) (h : History) → HasNoClip decoder
    → first_fault decoder.pixel_limit h ≡ None → (clipped_width decoder.pixel_limit h ≡ width h)
    × (clipped_height decoder.pixel_limit h ≡ height h)
size_whole decoder h none faultless =
    let fit = sides-fit decoder.pixel_limit h faultless in
    (omega (arith, fit.0, none.columns), omega (arith, fit.1, none.rows))

-- ---- the painted area

span_some : (h : History) → 1 ≤ span h
span_some [] = omega arith
span_some (token ∷ h) = grind (arith, nat_tests, span_some h)

reach_whole : (limit : Limit) (h : History) (row : ℕ) → side_limit ≤ limit.columns
    → side_limit ≤ limit.rows → first_fault limit h ≡ None
    → row_extent limit h row ≡ whole_row_extent h row
reach_whole limit [] row columns rows none = refl
reach_whole limit (token ∷ h) row columns rows none =
    let fit = sides-fit limit (token ∷ h) none in
    grind (arith, nat_tests, both_none, fit, span_some, reach_whole limit h row columns rows)

pub area_whole : (decoder : DecoderState) (h : History) → HasNoClip decoder
    → first_fault decoder.pixel_limit h ≡ None
    → painted_area decoder.pixel_limit h ≡ whole_painted_area h
area_whole decoder h none faultless = grind (arith, nat_tests, total-same, reach_whole)

-- ---- without a clip

image_whole : (o : Origin) (h : History) → side_limit ≤ o.pixel_limit.columns
    → side_limit ≤ o.pixel_limit.rows → first_fault o.pixel_limit h ≡ None
    → image_of o h ≡ whole_image o h
image_whole o h columns rows none =
    let fit = sides-fit o.pixel_limit h none in
    let wide : clipped_width o.pixel_limit h ≡ width h = omega arith in
    let high : image_height o.pixel_limit o.raster_crop h ≡ cropped_height o.raster_crop h =
    omega (arith, cropped_height-most o.raster_crop h) in
    rw (wide, high) refl

pub whole_is : (decoder : DecoderState) (payload : Found) (image : Image)
    → HasNoClip decoder → found_fault decoder.pixel_limit payload ≡ None
    → IsFoundImage decoder payload image → IsWholeImage decoder payload image
whole_is decoder (Payload settings bytes) image none faultless is =
    is
    ∙ image_whole (origin_of decoder settings) (tokens decoder.pixel_limit bytes) none.columns
    none.rows (effective-fault decoder.pixel_limit (history_of (front bytes)) ∙ faultless)
whole_is decoder (NoPayload fault) image none faultless is = absurd is

-- ---- a part of an image

-- a pixel of the picture does not depend on a clip
abbrev clipped : Origin → ℕ → ℕ → Origin
clipped o columns rows = record o {
  pixel_limit = record o.pixel_limit { columns = columns; rows = rows };
}

pixel_stays : (o : Origin) (columns rows : ℕ) (h : History) (column row : ℕ)
    → pixel (clipped o columns rows) h column row ≡ pixel o h column row
pixel_stays o columns rows [] column row = refl
pixel_stays o columns rows (token ∷ h) column row =
    grind (arith, nat_tests, pixel_stays o columns rows h)

part_of : (decoder : DecoderState) (columns rows : ℕ) (settings : Settings) (h : History)
    → IsInsideClip decoder columns rows
    → IsPartInside (pixel (origin_of decoder settings) h) columns rows
    (image_of (origin_of decoder settings) h)
    (image_of (origin_of (with_clip decoder columns rows) settings) h)
part_of decoder columns rows settings h inside = record {
  width = omega (arith, inside.columns);
  height = omega (arith, inside.rows);
  image_pixels = refl;
  part_pixels = picture_same _ _ _ _
      (pixel_stays (origin_of decoder settings) (clip_side_of columns) (clip_side_of rows) h);
  aspect_ratio = refl;
  background_mode = refl;
}

-- the tokens do not depend on a clip
tokens_stay : (decoder : DecoderState) (columns rows : ℕ) (bytes : List ℕ)
    → tokens (with_clip decoder columns rows).pixel_limit bytes ≡ tokens decoder.pixel_limit bytes
tokens_stay decoder columns rows bytes = grind (arith, nat_tests)

-- nor does the number of ignored ones
ignored_stay : (decoder : DecoderState) (columns rows : ℕ) (bytes : List ℕ)
    → payload_ignored (with_clip decoder columns rows).pixel_limit bytes
    ≡ payload_ignored decoder.pixel_limit bytes
ignored_stay decoder columns rows bytes = grind (arith, nat_tests)

pub part_is : (decoder : DecoderState) (columns rows : ℕ) (payload : Found) (image part : Image)
    → IsInsideClip decoder columns rows → IsFoundImage decoder payload image
    → IsFoundImage (with_clip decoder columns rows) payload part
    → IsPartInside (whole_pixel decoder payload) columns rows image part
part_is decoder columns rows (Payload settings bytes) image part inside is is_part =
    rw (is, is_part, tokens_stay decoder columns rows bytes)
    (part_of decoder columns rows settings (tokens decoder.pixel_limit bytes) inside)
part_is decoder columns rows (NoPayload fault) image part inside is is_part = absurd is

pub report_is : (decoder : DecoderState) (columns rows : ℕ) (payload : Found)
    → IsInsideClip decoder columns rows → found_report (with_clip decoder columns rows) payload
    ≡ part_report (found_report decoder payload) rows
report_is decoder columns rows payload inside =
    grind (arith, nat_tests, tokens_stay, ignored_stay)

-- ---- faults

pub fault_is : (decoder : DecoderState) (columns rows : ℕ) (payload : Found)
    → found_fault (with_clip decoder columns rows).pixel_limit payload
    ≡ found_fault decoder.pixel_limit payload
fault_is decoder columns rows payload = grind (arith, nat_tests)

-- ---- registers

pub registers_stay : (decoder : DecoderState) (columns rows : ℕ) (payload : Found)
    (after : List (List ℕ)) → AreFoundRegisters decoder payload after
    → AreFoundRegisters (with_clip decoder columns rows) payload after
registers_stay decoder columns rows payload after are =
    grind (arith, nat_tests, registers-effective)
