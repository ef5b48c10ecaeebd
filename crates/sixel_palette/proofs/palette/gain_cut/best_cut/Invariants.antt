use Rattle.std.proofs.Common.{◌≡◌, ℕ, ◌+◌}
use Rattle.sixel_palette.specs.GainCut.{best_to}
use Rattle.sixel_palette.specs.inside.{Boxes.AreGains, Sums.{prefix_sums, total}}
use Rattle.sixel_palette.proofs.palette.gain_cut.best_cut.Given as goal

abbrev pub invariant-loop-position : goal.invariant-loop-position
invariant-loop-position l = record {
  left : (k : ℕ) → total l.left k ≡ prefix_sums l.lower l.position k;
  best : (gains : ℕ → ℕ) → AreGains l.lower l.sides gains
      → l.best ≡ best_to gains l.channel (l.sides.low + l.position) l.fn.cut;
}
