use Rattle.std.{proofs.Common.{◌≡◌, take}, specs.List.sum}
use Rattle.sixel_palette.proofs.palette.color_counts.total_of.Given as goal

abbrev pub invariant-loop-count : goal.invariant-loop-count
invariant-loop-count l = l.total ≡ sum (take l.count-index l.counts)
