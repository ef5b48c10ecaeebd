use Rattle.std.proofs.Common.{◌≡◌, ◌-◌}
use Rattle.sixel_encoder.specs.Compact.{union}
use Rattle.sixel_encoder.proofs.segment_rows.union_of.Given as goal

abbrev pub invariant-loop-column : goal.invariant-loop-column
invariant-loop-column l = l.union ≡ union l.row l.from (l.column - l.from)
