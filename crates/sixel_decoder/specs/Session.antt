-- What contracts see of a session that decodes one payload in chunks: its start, the bytes fed,
-- whether a feed was rejected, the pixels written to grow its canvas, the capacity of the rows in
-- pixels, an upper bound of the pixels that sixels have painted, and how many rows from the top the
-- canvas has released. This library's own: it does not mention chunks, because chunk boundaries
-- have no effect.
use Rattle.std.specs.Prelude.{Bool, List, ℕ}
use Rattle.sixel_base.specs.{Stroke.Origin, declared.state.DecoderState.DecoderState}

pub record Session : Type 0 where
  pub origin : Origin
  pub bytes : List ℕ
  pub is_refused : Bool
  pub writes : ℕ
  pub room : ℕ
  pub paints : ℕ
  pub released : ℕ

-- the decoder that a picture began from
abbrev pub decoder_of : Origin → DecoderState
decoder_of origin = record {
  registers = origin.registers;
  raster_crop = origin.raster_crop;
  pixel_limit = origin.pixel_limit;
}

-- What contracts see of a session that decodes one DCS sequence in chunks: the decoder that it
-- began from, the bytes fed, whether a feed was rejected, and the same numbers for the canvas of
-- its payload.
pub record DcsSession : Type 0 where
  pub decoder : DecoderState
  pub bytes : List ℕ
  pub is_refused : Bool
  pub writes : ℕ
  pub room : ℕ
  pub paints : ℕ
  pub released : ℕ
