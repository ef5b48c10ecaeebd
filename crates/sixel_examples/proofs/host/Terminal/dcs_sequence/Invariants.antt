use Rattle.std.proofs.Common.{◌≡◌, ◌++◌, false, length}
use Rattle.icy_sixel.specs.Receiver.{OfString, start_of}
use Rattle.sixel_examples.proofs.host.Terminal.dcs_sequence.Given as goal

abbrev pub invariant-chunks : goal.invariant-chunks
invariant-chunks l = record {
  decoder : l.self.receiver.decoder ≡ l.fn.self.receiver.decoder;
  form : l.self.receiver.image.form ≡ OfString;
  start : l.self.receiver.image.start ≡ start_of l.fn.self.receiver;
  accepted : l.self.receiver.image.is_refused ≡ false;
  whole : l.self.receiver.image.released ≡ 0;
  bytes : l.self.receiver.image.bytes ++ l.rest ≡ l.bytes;
}

abbrev pub decreases-chunks : goal.decreases-chunks
decreases-chunks l = length l.rest
