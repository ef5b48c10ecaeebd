-- Final rows stay, in an image of either form.
use Rattle.std.proofs.Common.{◌≡◌, ℕ, ◌<◌, ◌≤◌, List, ◌++◌, refl, ap, sym, ◌∙◌, arith}
use Rattle.sixel_base.specs.{Decoder.origin_of, Limits.Limit, Payload.Image, Picture.picture}
use Rattle.sixel_base.specs.OneShot.{Found, IsFoundImage}
use Rattle.sixel_base.specs.declared.state.DecoderState.{DecoderState}
use Rattle.sixel_decoder.specs.FinalRows.{found_pixel, payload_final_rows, stage_final_rows}
use Rattle.sixel_decoder.proofs.drawing.Clips.{clipped_picture}
use Rattle.sixel_decoder.proofs.dcs_sequences.{Payloads.found_reading, Terminators.stage_reading}
use Rattle.sixel_decoder.proofs.images.StableRows.{final_rows_stay, final_pixels_stay}
use Rattle.sixel_decoder.proofs.images.StableRows.{dcs_final_rows_stay, has_begun}
use Rattle.icy_sixel.specs.ReceivedRows.{final_rows, pixel_so_far}
use Rattle.icy_sixel.specs.Receiver.{Form, Nothing, OfPayload, OfString}
use Rattle.std.proofs.lemmas.Bool.Decides.{nat_tests}

pub rows_stay : (limit : Limit) (form : Form) (bytes more : List ℕ)
    → final_rows limit form bytes ≤ final_rows limit form (bytes ++ more)
rows_stay limit form bytes more = grind (arith, nat_tests, final_rows_stay, dcs_final_rows_stay)

pub pixels_stay : (start : DecoderState) (form : Form) (bytes more : List ℕ) (column row : ℕ)
    → row < final_rows start.pixel_limit form bytes
    → pixel_so_far start form (bytes ++ more) column row ≡ pixel_so_far start form bytes column row
pixels_stay start Nothing bytes more column row final = refl
pixels_stay start (OfPayload settings) bytes more column row final =
    final_pixels_stay (origin_of start settings) bytes more column row final
pixels_stay start OfString bytes more column row final =
    let limit : Limit = start.pixel_limit in
    let begun = has_begun limit bytes (omega (arith, final)) in
    let on = stage_reading bytes more begun.settings begun.payload begun.reading in
    let above : row < payload_final_rows limit begun.payload =
    omega (arith, final, ap (stage_final_rows limit) begun.reading) in
    ap (λ (f : Found). found_pixel start f column row)
    (found_reading (bytes ++ more) begun.settings (begun.payload ++ more) on)
    ∙ final_pixels_stay (origin_of start begun.settings) begun.payload more column row above
    ∙ sym (ap (λ (f : Found). found_pixel start f column row)
    (found_reading bytes begun.settings begun.payload begun.reading))

-- the pixels of an image are those of the picture
pub image_pixels : (start : DecoderState) (payload : Found) (image : Image)
    → IsFoundImage start payload image
    → image.pixels ≡ picture (found_pixel start payload) image.width image.height
image_pixels start payload image is = grind (arith, nat_tests, clipped_picture)
