use Rattle.std.proofs.Common.{◌-◌, ◌<◌, length}
use Rattle.sixel_encoder.specs.inside.Runs.{IsRun}
use Rattle.sixel_encoder.proofs.runs.end_of_sixels.Given as goal

abbrev pub invariant-lanes : goal.invariant-lanes
invariant-lanes l = record { some : l.at < l.end; run : IsRun l.row l.at l.bits (l.end - l.at) }

abbrev pub decreases-lanes : goal.decreases-lanes
decreases-lanes l = length l.row - l.end

abbrev pub invariant-rest : goal.invariant-rest
invariant-rest l = record { some : l.at < l.end; run : IsRun l.row l.at l.bits (l.end - l.at) }

abbrev pub decreases-rest : goal.decreases-rest
decreases-rest l = length l.row - l.end
