-- What contracts see of both sessions: what a session was fed, as by Session of sixel_decoder, and
-- the decoder that it borrows. This library's own. A session has no model, since the decoder after
-- its end could not be named then.
use Rattle.std.specs.Borrow.{MutBor}
use Rattle.sixel_base.specs.declared.state.DecoderState.{DecoderState}
use Rattle.sixel_decoder.specs.Session.{Session, DcsSession}
use Rattle.icy_sixel.specs.declared.decoder.stream.SixelStreamDecoder.{SixelStreamDecoder}
use Rattle.icy_sixel.specs.declared.decoder.dcs_session.SixelDcsStreamDecoder.{
  SixelDcsStreamDecoder,
}

-- what a payload session was fed
abbrev pub payload : SixelStreamDecoder Session → Session
payload session = session.reader

-- the decoder that it borrows
abbrev pub payload_owner : {F : Type 0} → SixelStreamDecoder F → MutBor DecoderState
payload_owner session = session.owner

-- what a DCS session was fed
abbrev pub sequence : SixelDcsStreamDecoder DcsSession → DcsSession
sequence session = session.reader

-- the decoder that it borrows
abbrev pub sequence_owner : {P : Type 0} → SixelDcsStreamDecoder P → MutBor DecoderState
sequence_owner session = session.owner
