-- What contracts see of a receiver: its decoder, its settings, and the image that is open. The
-- bytes of an image mean what they mean in a session, of a payload or of a DCS sequence. Chunks are
-- not mentioned.
use Rattle.std.specs.Prelude.{ℕ, ◌≡◌, Bool, true, false, [], None}
use Rattle.sixel_base.specs.Decoder.{new_decoder, with_first_register, with_lenient}
use Rattle.sixel_base.specs.{Decoder.with_transparent, declared.state.DecoderState.DecoderState}
pub use Rattle.sixel_decoder.specs.FedImages.{count, fault, growths, has_ended, is_open, is_over}
pub use Rattle.sixel_decoder.specs.FedImages.{status}
pub use Rattle.sixel_decoder.specs.FinishedImages.{end_fault, end_wants, failed, found_followed}
pub use Rattle.sixel_decoder.specs.Paints.{most_run_paints}
pub use Rattle.sixel_decoder.specs.Reception.{Form, Nothing, OfPayload, OfString, Reception, begun}
pub use Rattle.sixel_decoder.specs.Reception.{band_columns, drawn_height, final_rows, found}
pub use Rattle.sixel_decoder.specs.Reception.{in_payload, least_band_count, size, sixels}

-- a decoder; whether faulty commands are ignored in images, whether pixels that are not drawn are
-- transparent in all of them, and the register that each one selects first; the image that is open
pub record Receiver : Type 0 where
  pub decoder : DecoderState
  pub lenient : Bool
  pub transparent : Bool
  pub first_register : ℕ
  pub image : Reception

-- if none is open, every call fails
abbrev pub no_image : Reception
no_image = record {
  form = Nothing;
  start = new_decoder;
  bytes = [];
  is_refused = true;
  failure = None;
  writes = 0;
  room = 0;
  paints = 0;
  released = 0;
}

-- a receiver that was only given its decoder
abbrev pub idle : DecoderState → Receiver
idle decoder = record {
  decoder = decoder;
  lenient = false;
  transparent = false;
  first_register = 0;
  image = no_image;
}

-- what an image begins from: the decoder with the settings of the receiver
abbrev pub start_of : Receiver → DecoderState
start_of receiver =
    with_first_register
    (with_transparent (with_lenient receiver.decoder receiver.lenient) receiver.transparent)
    receiver.first_register

-- the settings of the receiver stay
abbrev pub AreSettingsKept : Receiver → Receiver → Type 0
AreSettingsKept old new =
    (new.lenient ≡ old.lenient) × (new.transparent ≡ old.transparent)
    × (new.first_register ≡ old.first_register)
