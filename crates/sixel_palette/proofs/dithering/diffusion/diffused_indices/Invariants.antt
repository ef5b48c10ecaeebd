use Rattle.std.proofs.Common.{◌≡◌, ◌*◌, length}
use Rattle.std.specs.Prelude.{◌/◌}
use Rattle.sixel_palette.specs.{Dithering.{AreVisited, errors_of}, inside.Diffusion.ArePrepared}
use Rattle.sixel_palette.specs.{inside.Diffusion.IsLine, inside.Mapped.{AreEntries, mapped_value}}
use Rattle.sixel_palette.proofs.dithering.diffusion.diffused_indices.Given as goal

abbrev pub invariant-loop-row : goal.invariant-loop-row
invariant-loop-row l = record {
  size : length l.indices.items ≡ length l.image.pixels.now / 4;
  entries : AreEntries l.image.colors.now l.indices.items;
  visited : AreVisited (mapped_value l.image) l.indices.items (l.row * l.image.width);
  line : IsLine (mapped_value l.image)
      (errors_of (mapped_value l.image) l.indices.items (l.row * l.image.width)) l.row 0
      l.line.items;
  prepared : ArePrepared l.image l.entries;
}
