use Rattle.std.proofs.Common.{◌≡◌, ◌*◌, ◌∙◌, ap, sym, arith, Ok, Err, Result, List, ℕ}
use Rattle.std.specs.Prelude.{IfOk}
use Rattle.sixel_base.specs.{Clip.clipped_pixel, Decoder.origin_of, OneShot.Payload, Payload.tokens}
use Rattle.sixel_base.specs.Settings.{Settings}
use Rattle.sixel_base.specs.declared.{error.SixelError.SixelError, state.DecoderState.DecoderState}
use Rattle.sixel_decoder.specs.{OneShotCalls.IsDecoded, PictureView.picture_value}
use Rattle.sixel_decoder.specs.declared.decoded_payload.DecodedPayload.{DecodedPayload}
use Rattle.sixel_decoder.specs.inside.PayloadParser.{Decodes}
use Rattle.sixel_decoder.proofs.images.WholePictures.{whole_picture}
use Rattle.sixel_decoder.proofs.one_shot.decode_payload.Goals as goal

-- decoding in one call, by what the parser read
decoded_by : (result : Result DecodedPayload SixelError) (decoder : DecoderState)
    (settings : Settings) (bytes : List ℕ) → Decodes result (origin_of decoder settings) bytes
    → IfOk result (λ picture. picture.first_row ≡ 0)
    → IsDecoded picture_value decoder (Payload settings bytes) result
decoded_by (Ok picture) decoder settings bytes is whole = record {
  image = sym (whole_picture (clipped_pixel (origin_of decoder settings)
      (tokens decoder.pixel_limit bytes)) picture whole) ∙ is.1;
  area = is.3;
  pixels =
      picture.rows
      ∙ ap (λ (n : ℕ). 4 * (picture.width * n))
      (omega (arith, whole));
  faultless = is.0;
  refused = tt;
}
decoded_by (Err e) decoder settings bytes is whole = record {
  image = tt;
  area = tt;
  pixels = tt;
  faultless = tt;
  refused = is;
}

pub returns-clause-decoded : goal.returns-clause-decoded
returns-clause-decoded c =
    let origin = origin_of c.args.decoder c.args.settings in
    decoded_by c.read_whole.result c.args.decoder c.args.settings c.args.bytes.now
    (c.read_whole.ensures.decodes origin c.new.ensures.stands) c.read_whole.ensures.whole
