-- What contracts see of a DCS reader, and what its state says of the bytes.
-- From the form of the session: it begins from the state of its decoder.
use Rattle.std.specs.Prelude.{ℕ}
use Rattle.sixel_decoder.specs.declared.dcs_state.DcsState.{DcsState}
use Rattle.sixel_decoder.specs.declared.dcs_state.DcsState.TheVariants.{Payload}
use Rattle.sixel_decoder.specs.Session.{DcsSession, Session}
use Rattle.sixel_decoder.specs.inside.DcsState.{HasFollowed, is_failed, released_of}
use Rattle.sixel_decoder.specs.declared.dcs_reader.DcsReader.TheInside.{Inside}

-- a number of the reader of the payload; there is none before the payload and after an error
abbrev pub number_of : {C : Type 0} → (Session → ℕ) → DcsState C → ℕ
number_of number (Payload reader) = number reader
number_of number _ = 0

abbrev pub session_of : {C : Type 0} → Inside C → DcsSession
session_of reader = record {
  decoder = reader.decoder;
  bytes = reader.log;
  is_refused = is_failed reader.state;
  writes = number_of (λ s. s.writes) reader.state;
  room = number_of (λ s. s.room) reader.state;
  paints = number_of (λ s. s.paints) reader.state;
  released = released_of reader.state;
}

abbrev pub IsFollowing : {C : Type 0} → Inside C → Type 0
IsFollowing reader = HasFollowed reader.state reader.decoder reader.ended reader.log
