use Rattle.std.proofs.Common.{ℕ, ◌<◌, ◌≤◌, get_or}
use Rattle.sixel_palette.specs.{GainCut.side, declared.palette.bins.Bin.Bin}
use Rattle.sixel_palette.proofs.palette.gain_cut.sides_of.Given as goal

abbrev pub invariant-loop-bin : goal.invariant-loop-bin
invariant-loop-bin l = record {
  low : l.low < 256;
  high : l.high < 256;
  above : (k : ℕ) (d : Bin) → k < l.bin-index → l.low ≤ side l.channel (get_or l.bins k d).corner;
  below : (k : ℕ) (d : Bin) → k < l.bin-index → side l.channel (get_or l.bins k d).corner ≤ l.high;
}
