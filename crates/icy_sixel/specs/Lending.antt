-- What a receiver is when the borrow of its decoder ends.
use Rattle.std.specs.Borrow.{Lends, MutBor, Fml}
use Rattle.sixel_base.specs.declared.state.DecoderState.{DecoderState}
use Rattle.icy_sixel.specs.Receiver.{Receiver}
use Rattle.icy_sixel.specs.contracts.decoder.SixelDecoder as decoder
use Rattle.icy_sixel.specs.contracts.receiver.SixelReceiver as receiver

-- a receiver ends with the last value of its decoder
abbrev pub LendsDecoder : MutBor Receiver → MutBor DecoderState → Fml
LendsDecoder r d =
    Lends receiver.the_row decoder.the_row r d (λ last. record r.now { decoder = last })
