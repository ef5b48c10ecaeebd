-- The receiver was fed the bytes before the rest, without a fault. It is known how many of them are
-- the sequence's own.
use Rattle.std.proofs.Common.{◌≡◌, ◌++◌, length, false, None}
use Rattle.sixel_base.specs.Dcs.{dcs_status, dcs_count, dcs_fault}
use Rattle.icy_sixel.specs.Receiver.{AreSettingsKept, OfString}
use Rattle.sixel_decoder.specs.declared.received.Status.TheVariants.{Dcs}
use Rattle.sixel.proofs.sequences.feed_chunks.Given as goal

abbrev pub invariant-chunks : goal.invariant-chunks
invariant-chunks l = record {
  decoder : l.receiver.decoder ≡ l.fn.receiver.decoder;
  settings : AreSettingsKept l.fn.receiver l.receiver;
  form : l.receiver.image.form ≡ OfString;
  start : l.receiver.image.start ≡ l.fn.receiver.image.start;
  released : l.receiver.image.released ≡ l.fn.receiver.image.released;
  accepted : l.receiver.image.is_refused ≡ false;
  joined : l.receiver.image.bytes ++ l.rest ≡ l.bytes;
  faultless : dcs_fault l.fn.receiver.image.start.pixel_limit l.receiver.image.bytes ≡ None;
  counted : l.fed.consumed ≡ dcs_count l.receiver.image.bytes;
  known : l.fed.status ≡ Dcs (dcs_status l.receiver.image.bytes);
}

abbrev pub decreases-chunks : goal.decreases-chunks
decreases-chunks l = length l.rest
