use Rattle.std.proofs.Common.{◌≡◌, ℕ, ◌+◌, ◌≤◌, drop, length, take}
use Rattle.std.specs.{List.sum_by, List.Sorted.IsPermutation}
use Rattle.sixel_palette.specs.{declared.palette.bins.Bin.Bin, inside.Boxes.{low_part, range_of}}
use Rattle.sixel_palette.proofs.palette.gain_cut.divide.Given as goal

abbrev pub invariant-loop-position : goal.invariant-loop-position
invariant-loop-position l = record {
  from : l.start ≤ l.middle;
  to : l.middle ≤ l.position;
  size : length l.bins ≡ length l.fn.bins;
  moved : IsPermutation l.fn.bins l.bins;
  front : take l.start l.bins ≡ take l.start l.fn.bins;
  rest : drop l.position l.bins ≡ drop l.position l.fn.bins;
  lower : (number : Bin → ℕ) → sum_by number (take l.middle l.bins)
      ≡ sum_by number (take l.start l.fn.bins)
      + sum_by (low_part l.cut.channel l.cut.value number)
      (range_of l.fn.bins l.start l.position);
}
