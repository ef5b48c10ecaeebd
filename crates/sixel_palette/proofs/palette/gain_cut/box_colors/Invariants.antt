use Rattle.std.{proofs.Common.{◌≡◌, ℕ, ◌<◌, [], List, get_or, length}, specs.List.All}
use Rattle.sixel_base.specs.Color.{rgb}
use Rattle.sixel_palette.{specs.ColorSums.{Pixels, mean_or}, specs.GainCut.{Box, box_at, box_sums}}
use Rattle.sixel_palette.{specs.Refined.IsRegisterColor, specs.inside.Boxes.AreBoxes}
use Rattle.sixel_palette.proofs.palette.gain_cut.box_colors.Given as goal

abbrev pub invariant-loop-position : goal.invariant-loop-position
invariant-loop-position l = record {
  shown : All IsRegisterColor l.colors.items;
  size : length l.colors.items ≡ l.position;
  means : (pixels : Pixels) (model : List Box) → AreBoxes pixels l.bins l.boxes model
      → (k : ℕ) → k < l.position
      → get_or l.colors.items k [] ≡ mean_or (box_sums pixels (box_at model k)) (rgb 0 0 0);
}
