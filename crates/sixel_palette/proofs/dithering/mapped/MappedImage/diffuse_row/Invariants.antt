use Rattle.std.{proofs.Common.{◌≡◌, ℕ, ◌+◌, ◌*◌, ◌<◌, length}, specs.Prelude.{◌/◌, Some}}
use Rattle.sixel_palette.specs.Dithering.{AreVisited, entry_before, error_before, error_behind}
use Rattle.sixel_palette.{specs.Dithering.errors_of, specs.inside.Diffusion.AreErrors}
use Rattle.sixel_palette.specs.inside.Diffusion.{ArePrepared, IsLine, channels}
use Rattle.sixel_palette.specs.inside.Mapped.{AreEntries, mapped_value}
use Rattle.sixel_palette.proofs.dithering.mapped.MappedImage.diffuse_row.Given as goal

abbrev pub invariant-loop-step : goal.invariant-loop-step
invariant-loop-step l = record {
  size : length l.indices ≡ length l.self.pixels.now / 4;
  entries : AreEntries l.self.colors.now l.indices;
  visited : AreVisited (mapped_value l.self) l.indices (l.row * l.self.width + l.step);
  line : IsLine (mapped_value l.self)
      (errors_of (mapped_value l.self) l.indices (l.row * l.self.width + l.step)) l.row l.step
      l.line;
  entry : l.step < l.self.width → l.entry
      ≡ entry_before (mapped_value l.self) l.indices (l.row * l.self.width + l.step);
  inside : (index : ℕ) → l.entry ≡ Some index → index < length l.self.colors.now;
  before : channels l.before
      ≡ error_before (mapped_value l.self)
      (errors_of (mapped_value l.self) l.indices (l.row * l.self.width + l.step)) l.step;
  behind : channels l.behind
      ≡ error_behind (mapped_value l.self)
      (errors_of (mapped_value l.self) l.indices (l.row * l.self.width + l.step)) l.step;
  lanes_before : AreErrors l.before;
  lanes_behind : AreErrors l.behind;
  prepared : ArePrepared l.self l.entries;
}
