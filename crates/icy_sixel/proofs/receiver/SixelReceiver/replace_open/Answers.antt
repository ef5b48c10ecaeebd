use Rattle.std.proofs.Common.{ap}
use Rattle.icy_sixel.specs.declared.receiver.SixelReceiver.{SixelReceiver}
use Rattle.icy_sixel.proofs.receiver.SixelReceiver.replace_open.Goals as goal

pub returns-clause-decoder : goal.returns-clause-decoder
returns-clause-decoder c = ap (λ (r : SixelReceiver). r.decoder) c.self.view_is

pub returns-clause-settings : goal.returns-clause-settings
returns-clause-settings c = (
  ap (λ (r : SixelReceiver). r.lenient) c.self.view_is,
  ap (λ (r : SixelReceiver). r.transparent) c.self.view_is,
  ap (λ (r : SixelReceiver). r.first_register) c.self.view_is,
)
