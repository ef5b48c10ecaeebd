use Rattle.std.proofs.Common.{◌≡◌, ◌++◌, false}
use Rattle.icy_sixel.specs.Receiver.{count}
use Rattle.icy_sixel.proofs.script.session.Session.feed.Given as goal

abbrev pub invariant-loop-cut : goal.invariant-loop-cut
invariant-loop-cut l = record {
  decoder : l.receiver.decoder ≡ l.fn.receiver.decoder;
  form : l.receiver.image.form ≡ l.fn.receiver.image.form;
  start : l.receiver.image.start ≡ l.fn.receiver.image.start;
  accepted : l.receiver.image.is_refused ≡ false;
  stored : l.receiver.image.released ≡ 0;
  joined : l.receiver.image.bytes ++ l.rest ≡ l.self.bytes.now;
  counted : l.consumed ≡ count l.receiver.image.form l.receiver.image.bytes;
}
