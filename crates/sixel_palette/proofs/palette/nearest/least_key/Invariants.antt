use Rattle.std.proofs.Common.{◌≡◌, take}
use Rattle.sixel_palette.specs.inside.{Codes.color_of, Keys.least_key}
use Rattle.sixel_palette.proofs.palette.nearest.least_key.Given as goal

abbrev pub invariant-loop-entry : goal.invariant-loop-entry
invariant-loop-entry l = l.least ≡ least_key (take l.entry-index l.entries) (color_of l.code)
