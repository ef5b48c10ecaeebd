-- What the calls of a payload session do, by the session before and after. What the bytes of a
-- payload mean is in Payload of sixel_base, which does not mention chunks.
use Rattle.std.specs.{Prelude.{◌≡◌, List, ℕ, [], false, Result, Ok}, Result.result_map_both}
use Rattle.sixel_base.specs.{Stroke.Origin, declared.error.SixelError.SixelError}
use Rattle.sixel_base.specs.declared.status.SixelFeedResult.{SixelFeedResult}
use Rattle.sixel_base.specs.declared.status.SixelFeedStatus.TheVariants.{NeedMoreData}
use Rattle.sixel_decoder.specs.{FedImages.of_payload_fed, Reception.of_payload, Session.Session}
use Rattle.sixel_decoder.specs.FedImages as images

-- a session that was fed nothing
abbrev pub begun : Origin → Session
begun origin = record {
  origin = origin;
  bytes = [];
  is_refused = false;
  writes = 0;
  room = 0;
  paints = 0;
  released = 0;
}

-- the result of a feed of one byte that belongs to the payload
abbrev pub byte_read : Result SixelFeedResult SixelError
byte_read = Ok (record { consumed = 1; status = NeedMoreData })

-- The session reads the chunk up to the first terminator of all bytes, or rejects it.
pub record IsFed (old new : Session) (chunk : List ℕ)
    (result : Result SixelFeedResult SixelError) : Type 0 where
  -- what the session began from stays
  pub origin : new.origin ≡ old.origin
  pub fed : images.IsFed (of_payload old) (of_payload new) chunk
      (result_map_both of_payload_fed (λ error. error) result)
