use Rattle.std.{proofs.Common.{◌≡◌, ◌-◌, true, length}, specs.List.Sorted.IsPermutation}
use Rattle.sixel_palette.{specs.ColorSums.Pixels, specs.GainCut.boxes_after}
use Rattle.sixel_palette.{specs.inside.Boxes.{AreBoxes, AreRanges}, specs.inside.Sums.AreBinsOf}
use Rattle.sixel_palette.proofs.palette.gain_cut.boxes_of.Given as goal

abbrev pub invariant-loop-count : goal.invariant-loop-count
invariant-loop-count l = record {
  boxes : length l.boxes.items ≡ l._count;
  ranges : AreRanges (length l.bins) l.boxes.items;
  lower : length l.lower ≡ 256;
  upper : length l.upper ≡ 256;
  moved : IsPermutation l.fn.bins l.bins;
  model : (pixels : Pixels) → AreBinsOf pixels (λ _. true) l.fn.bins
      → AreBoxes pixels l.bins l.boxes.items (boxes_after pixels (l._count - 1));
}
