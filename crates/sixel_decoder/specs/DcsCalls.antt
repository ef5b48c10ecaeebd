-- What the calls of a DCS session do, by the session before and after. What the bytes of a DCS
-- sequence mean is in Dcs of sixel_base, which does not mention chunks.
use Rattle.std.specs.{Prelude.{ℕ, List, [], false, Result, Ok}, Result.result_map_both}
use Rattle.sixel_base.specs.declared.{error.SixelError.SixelError, state.DecoderState.DecoderState}
use Rattle.sixel_base.specs.declared.status.SixelDcsFeedResult.{SixelDcsFeedResult}
use Rattle.sixel_base.specs.declared.status.SixelDcsFeedStatus.TheVariants.{NeedMoreData}
use Rattle.sixel_decoder.specs.{FedImages.of_sequence_fed, Reception.of_sequence}
use Rattle.sixel_decoder.specs.Session.{DcsSession}
use Rattle.sixel_decoder.specs.FedImages as images

-- a session that was fed nothing
abbrev pub begun : DecoderState → DcsSession
begun decoder = record {
  decoder = decoder;
  bytes = [];
  is_refused = false;
  writes = 0;
  room = 0;
  paints = 0;
  released = 0;
}

-- the result of a feed of one byte of the payload
abbrev pub byte_read : Result SixelDcsFeedResult SixelError
byte_read = Ok (record { consumed = 1; status = NeedMoreData })

-- The session reads the chunk as far as the DCS sequence goes, or rejects it.
abbrev pub IsFed : DcsSession → DcsSession → List ℕ → Result SixelDcsFeedResult SixelError → Type 0
IsFed old new chunk result =
    images.IsFed (of_sequence old) (of_sequence new) chunk
    (result_map_both of_sequence_fed (λ error. error) result)
