-- A transparent background changes the pixels that no sixel covers, and nothing else.
use Rattle.std.proofs.Common.{◌≡◌, ℕ, Bool, true, List, [], ◌∷◌, refl, arith}
use Rattle.sixel_base.specs.Decoder.{origin_of, with_transparent}
use Rattle.sixel_base.specs.{History.History, Lenient.fault, Limits.Limit, OneShot.found_fault}
use Rattle.sixel_base.specs.{Stroke.Origin, Stroke.pixel, declared.state.DecoderState.DecoderState}
use Rattle.sixel_base.specs.OneShot.{Found, Payload, NoPayload, AreFoundRegisters, IsFoundImage}
use Rattle.sixel_base.specs.Payload.{Image, image_of, tokens}
use Rattle.sixel_canvas.proofs.Pictures.{picture_same}
use Rattle.icy_sixel.specs.TransparentImages.{IsCleared, drawn_pixel, drawn_pixel_of}
use Rattle.std.proofs.lemmas.Bool.Decides.{nat_tests}

abbrev set : Limit → Bool → Limit
set limit on = record limit { transparent = on }

-- ---- no fault depends on it

tokens-set : (limit : Limit) (on : Bool) (bytes : List ℕ)
    → tokens (set limit on) bytes ≡ tokens limit bytes
tokens-set limit on bytes = grind (arith, nat_tests)

pub fault_stays : (decoder : DecoderState) (on : Bool) (payload : Found)
    → found_fault (with_transparent decoder on).pixel_limit payload
    ≡ found_fault decoder.pixel_limit payload
fault_stays decoder on payload = grind (arith, nat_tests)

pub registers_after : (decoder : DecoderState) (on : Bool) (payload : Found)
    (after : List (List ℕ)) → AreFoundRegisters decoder payload after
    → AreFoundRegisters (with_transparent decoder on) payload after
registers_after decoder on payload after is = grind (arith, nat_tests)

-- ---- the pixels

pixel-set : (o : Origin) (h : History) (column row : ℕ)
    → pixel (record o { pixel_limit = set o.pixel_limit true }) h column row
    ≡ drawn_pixel o h column row
pixel-set o [] column row = refl
pixel-set o (token ∷ h) column row = grind (arith, nat_tests, pixel-set o h column row)

cleared_of : (o : Origin) (h : History)
    → IsCleared (drawn_pixel o h) (image_of o h)
    (image_of (record o { pixel_limit = set o.pixel_limit true }) h)
cleared_of o h = grind (arith, nat_tests, picture_same, pixel-set)

pub cleared_is : (decoder : DecoderState) (payload : Found) (image clear : Image)
    → IsFoundImage decoder payload image
    → IsFoundImage (with_transparent decoder true) payload clear
    → IsCleared (drawn_pixel_of decoder payload) image clear
cleared_is decoder (Payload settings bytes) image clear is is_clear =
    rw (is, is_clear, tokens-set decoder.pixel_limit true bytes)
    (cleared_of (origin_of decoder settings) (tokens decoder.pixel_limit bytes))
cleared_is decoder (NoPayload fault) image clear is is_clear = absurd is
