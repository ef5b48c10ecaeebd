use Rattle.std.specs.Prelude.{◌≡◌, ◌+◌, ◌-◌, ◌*◌, ◌/◌, ◌<◌, length, slice_index}
use Rattle.sixel_palette.specs.inside.Nearest.{AreIndicesTo, IsIndexOf}
use Rattle.sixel_palette.proofs.palette.indices.indices_of.Given as goal

abbrev pub invariant-loop-four : goal.invariant-loop-four
invariant-loop-four l = record {
  size : length l.indices.items ≡ length l.pixels / 4;
  each : AreIndicesTo l.pixels l.colors.codes.items l.color_indices (4 * l.four) l.indices.items;
  last : IsIndexOf l.colors.codes.items l.color_indices l.last l.index;
}

abbrev pub invariant-loop-lane : goal.invariant-loop-lane
invariant-loop-lane l = record {
  size : length l.indices.items ≡ length l.pixels / 4;
  each : AreIndicesTo l.pixels l.colors.codes.items l.color_indices (4 * l.four + l.lane)
      l.indices.items;
  last : 0 < l.lane
      → IsIndexOf l.colors.codes.items l.color_indices (slice_index l.words (l.lane - 1)) l.index;
}

abbrev pub invariant-loop-pixel : goal.invariant-loop-pixel
invariant-loop-pixel l = record {
  size : length l.indices.items ≡ length l.pixels / 4;
  each : AreIndicesTo l.pixels l.colors.codes.items l.color_indices l.pixel l.indices.items;
}
