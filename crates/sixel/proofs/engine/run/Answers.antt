use Rattle.std.proofs.{Common.{◌∙◌, ap, arith}, lemmas.Bool.Decides.nat_tests}
use Rattle.sixel_base.specs.{Decoder.{new_decoder, origin_of}, Payload.payload_image}
use Rattle.sixel.proofs.Outputs.{Serves-image, Serves-whole}
use Rattle.sixel.proofs.engine.run.Goals as goal

pub returns-in_ok-image-in-Payload : goal.returns-in_ok-image-in-Payload
returns-in_ok-image-in-Payload g c =
    let decoded = c.in_ok-image-in-Payload.ensures in
    let settings =
    ap (λ s. payload_image (origin_of new_decoder s) c.args.bytes.now) c.new-settings.ensures in
    rw c.in-Payload.is (Serves-image _ _ _ _ _ _ _ decoded.faultless (decoded.image ∙ settings)
    c.write_image.ensures)

pub returns-in_ok-image-in-Decode : goal.returns-in_ok-image-in-Decode
returns-in_ok-image-in-Decode g c =
    let decoded = c.in_ok-image-in-Decode.ensures in
    rw c.in-Decode.is (Serves-image _ _ _ _ _ _ _ decoded.faultless decoded.image
    c.write_image-in-Decode.ensures)

pub returns-in_ok-text-in-Encode : goal.returns-in_ok-text-in-Encode
returns-in_ok-text-in-Encode g c =
    let encoded = c.in_ok-text-in-Encode.ensures in
    rw c.in-Encode.is (Serves-whole _ _ _ _ _ c.write_all.ensures
    (grind (arith, nat_tests, encoded.refused), rw c.as_bytes.ensures.value encoded.text))
