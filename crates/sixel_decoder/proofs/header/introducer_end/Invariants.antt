use Rattle.std.proofs.Common.{◌≡◌, drop}
use Rattle.sixel_base.specs.OneShot.{after_introducer}
use Rattle.sixel_decoder.proofs.header.introducer_end.Given as goal

abbrev pub invariant-search : goal.invariant-search
invariant-search l = after_introducer (drop l.index l.bytes) ≡ after_introducer l.bytes
