use Rattle.std.proofs.Common.{refl}
use Rattle.icysixel.proofs.state.State.store.Goals as goal

pub returns-in-Ok-clause-stored : goal.returns-in-Ok-clause-stored
returns-in-Ok-clause-stored c = rw c.in-Ok.is (
  refl,
  record {
    image = c.crop.new.self;
    is_stored = refl;
    is_cropped = c.crop.ensures;
    shape = c.of.ensures;
  },
)
