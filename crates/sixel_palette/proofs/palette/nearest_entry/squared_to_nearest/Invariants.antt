use Rattle.std.proofs.Common.{◌≡◌, take}
use Rattle.sixel_palette.specs.Palette.{nearest}
use Rattle.sixel_palette.proofs.palette.nearest_entry.squared_to_nearest.Given as goal

abbrev pub invariant-loop-index : goal.invariant-loop-index
invariant-loop-index l = l.least ≡ nearest (take l.index l.entries) l.color
