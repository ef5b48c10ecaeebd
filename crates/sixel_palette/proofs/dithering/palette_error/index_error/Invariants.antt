use Rattle.std.proofs.Common.{◌≡◌, ◌*◌, ◌≤◌}
use Rattle.sixel_palette.specs.{Palette.{nearest, no_entry}, Refined.{opaque_number, sum_to}}
use Rattle.sixel_palette.proofs.dithering.palette_error.index_error.Given as goal

abbrev pub invariant-loop-pixel : goal.invariant-loop-pixel
invariant-loop-pixel l = record {
  sum : l.error.sum
      ≡ sum_to (opaque_number (nearest l.image.colors.now) l.image.pixels.now) l.pixel;
  small : l.error.sum ≤ no_entry * l.pixel;
  count : l.error.pixels ≡ sum_to (opaque_number (λ _. 1) l.image.pixels.now) l.pixel;
  most : l.error.pixels ≤ l.pixel;
}
