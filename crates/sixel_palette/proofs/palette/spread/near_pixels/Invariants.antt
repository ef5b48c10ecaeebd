use Rattle.std.{proofs.Common.{◌≡◌, ◌≤◌, get_or, take}, specs.List.sum}
use Rattle.sixel_palette.{specs.Refined.sum_to, specs.inside.Refinement.near_count}
use Rattle.sixel_palette.proofs.palette.spread.near_pixels.Given as goal

abbrev pub invariant-loop-position : goal.invariant-loop-position
invariant-loop-position l = record {
  few : l.near ≤ sum (take l.position l.counts);
  near : l.near
      ≡ sum_to (λ k. near_count (get_or l.counts k 0) (get_or l.squares k 0)) l.position;
}
