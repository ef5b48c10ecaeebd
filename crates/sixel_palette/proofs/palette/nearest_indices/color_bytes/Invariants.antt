use Rattle.std.{proofs.Common.{◌<◌, take}, specs.Prelude.All}
use Rattle.sixel_palette.proofs.palette.nearest_indices.color_bytes.Given as goal

abbrev pub invariant-loop-index : goal.invariant-loop-index
invariant-loop-index l = All (All (λ byte. byte < 256)) (take l.index l.colors)
