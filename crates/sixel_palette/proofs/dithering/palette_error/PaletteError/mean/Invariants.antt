use Rattle.std.proofs.Common.{◌-◌, ◌*◌, ◌<◌, ◌≤◌}
use Rattle.sixel_palette.proofs.dithering.palette_error.PaletteError.mean.Given as goal

abbrev pub invariant-halves : goal.invariant-halves
invariant-halves l = record {
  apart : l.mean < l.above;
  high : l.above ≤ 0x40000;
  least : l.mean * l.pixels ≤ l.self.sum;
  most : l.self.sum < l.above * l.pixels;
}

abbrev pub decreases-halves : goal.decreases-halves
decreases-halves l = l.above - l.mean
