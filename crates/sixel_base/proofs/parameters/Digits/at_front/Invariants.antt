use Rattle.std.proofs.Common.{◌-◌, ◌<◌, length}
use Rattle.sixel_base.specs.inside.Parameters.{AreRead}
use Rattle.sixel_base.proofs.parameters.Digits.at_front.Given as goal

abbrev pub invariant-digits : goal.invariant-digits
invariant-digits l = AreRead l.bytes l.value l.len × (l.value < 1000000000)

abbrev pub decreases-digits : goal.decreases-digits
decreases-digits l = length l.bytes - l.len
