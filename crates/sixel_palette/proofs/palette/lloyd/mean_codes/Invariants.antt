use Rattle.std.proofs.Common.{◌≡◌, ℕ, ◌<◌, get_or, length}
use Rattle.sixel_palette.specs.{Lloyd.mean_bytes, declared.palette.bins.Bin.Bin}
use Rattle.sixel_palette.specs.{inside.Codes.{AreColorCodes, color_of}, inside.Sums.total}
use Rattle.sixel_palette.proofs.palette.lloyd.mean_codes.Given as goal

abbrev pub invariant-loop-bin : goal.invariant-loop-bin
invariant-loop-bin l = record {
  small : AreColorCodes l.codes.items;
  size : length l.codes.items ≡ l.bin-index;
  means : (k : ℕ) (d : Bin) → k < l.bin-index → color_of (get_or l.codes.items k 0)
      ≡ mean_bytes (total (get_or l.bins k d).sums);
}
