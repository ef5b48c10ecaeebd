use Rattle.std.proofs.Common.{◌≡◌, ◌++◌, ◌-◌, length}
use Rattle.sixel_encoder.specs.Segments.{passes}
use Rattle.sixel_encoder.proofs.segments.in_passes.Given as goal

abbrev pub invariant-loop : goal.invariant-loop
invariant-loop l =
    l.ordered.items ++ passes (length l.segments - l.counter) l.left.items
    ≡ passes (length l.segments) l.segments
