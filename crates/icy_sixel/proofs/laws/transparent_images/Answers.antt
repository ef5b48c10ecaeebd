use Rattle.icy_sixel.proofs.TransparentImages.{cleared_is, fault_stays, registers_after}
use Rattle.icy_sixel.proofs.laws.transparent_images.Goals as goal

pub returns : goal.returns
returns c = record { image = cleared_is; fault = fault_stays; registers = registers_after }
