use Rattle.std.proofs.Common.{◌≡◌, ℕ, ◌<◌, [], get_or, length}
use Rattle.std.specs.List.{All}
use Rattle.sixel_palette.specs.{ColorSums.mean_or, Refined.IsRegisterColor}
use Rattle.sixel_palette.specs.{declared.palette.color_sums.ColorSums.ColorSums, inside.Sums.total}
use Rattle.sixel_palette.proofs.palette.lloyd.means_of.Given as goal

abbrev pub invariant-loop-position : goal.invariant-loop-position
invariant-loop-position l = record {
  shown : All IsRegisterColor l.means.items;
  size : length l.means.items ≡ l.position;
  means : (k : ℕ) (d : ColorSums) → k < l.position → get_or l.means.items k []
      ≡ mean_or (total (get_or l.sums k d)) (get_or l.colors k []);
}
