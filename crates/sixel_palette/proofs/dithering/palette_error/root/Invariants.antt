use Rattle.std.proofs.Common.{◌≡◌, ◌-◌}
use Rattle.sixel_palette.specs.Dithering.{root}
use Rattle.sixel_palette.proofs.dithering.palette_error.root.Given as goal

abbrev pub invariant-loop-less : goal.invariant-loop-less
invariant-loop-less l = root l.number 255 ≡ root l.number (255 - l.less)
