use Rattle.std.proofs.Common.{get_or}
use Rattle.sixel_palette.proofs.traversal.Relaxation.{IsGreatestOf}
use Rattle.sixel_palette.proofs.palette.relaxation.greatest_of_eight.Given as goal

abbrev pub invariant-loop-lane : goal.invariant-loop-lane
invariant-loop-lane l = IsGreatestOf (λ j. get_or l.numbers j 0) 0 l.lane l.greatest
