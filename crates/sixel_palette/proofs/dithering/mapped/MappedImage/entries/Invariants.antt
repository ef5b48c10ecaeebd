use Rattle.std.proofs.Common.{◌≡◌, ℕ, ◌<◌, [], length, get_or}
use Rattle.sixel_palette.specs.inside.Diffusion.{IsPart}
use Rattle.sixel_palette.proofs.dithering.mapped.MappedImage.entries.Given as goal

abbrev pub invariant-loop-index : goal.invariant-loop-index
invariant-loop-index l = record {
  size : length l.parts.items ≡ l.index;
  each : (k : ℕ) → k < l.index
      → IsPart l.self.strength (get_or l.self.colors.now k []) (get_or l.parts.items k []);
}
