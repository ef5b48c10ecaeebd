use Rattle.std.{proofs.Common.{◌≡◌, ℕ, take}, specs.List.sum_by}
use Rattle.sixel_palette.specs.inside.Sums.{total}
use Rattle.sixel_palette.proofs.palette.gain_cut.mean_of.Given as goal

abbrev pub invariant-loop-bin : goal.invariant-loop-bin
invariant-loop-bin l =
    (k : ℕ) → total l.sums k ≡ sum_by (λ bin. total bin.sums k) (take l.bin-index l.bins)
