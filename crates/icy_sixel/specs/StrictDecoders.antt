-- Decoders as a host has them: strict ones. Lenience, transparent backgrounds and the first
-- register are settings of a receiver. All are this library's own.
use Rattle.std.specs.Prelude.{◌≡◌, false}
use Rattle.sixel_base.specs.declared.state.DecoderState.{DecoderState}

-- a decoder that ignores no command, whose background is by P2, and that begins with register 0
pub record IsStrict (decoder : DecoderState) : Type 0 where
  pub lenient : decoder.pixel_limit.lenient ≡ false
  pub transparent : decoder.pixel_limit.transparent ≡ false
  pub first_register : decoder.pixel_limit.first_register ≡ 0
