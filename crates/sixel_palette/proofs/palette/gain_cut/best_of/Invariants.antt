use Rattle.std.proofs.Common.{◌≡◌, ◌-◌, ◌<◌, length, get_or}
use Rattle.sixel_palette.specs.{GainCut.first_greatest, declared.palette.gain_cut.ColorBox.ColorBox}
use Rattle.sixel_palette.proofs.palette.gain_cut.best_of.Given as goal

abbrev pub invariant-loop-position : goal.invariant-loop-position
invariant-loop-position l = record {
  within : l.best < length l.boxes;
  first : (d : ColorBox)
      → l.best ≡ first_greatest (λ k. (get_or l.boxes k d).cut.gain) (l.position - 1);
}
