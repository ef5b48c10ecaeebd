-- The colors so far are those of the pixels so far.
use Rattle.std.{proofs.Common.{◌≡◌, map}, specs.List.range_with_len}
use Rattle.sixel_palette.specs.Palette.{color_at}
use Rattle.sixel.proofs.draw.palette_file.pixel_colors.Given as goal

abbrev pub invariant-loop-pixel : goal.invariant-loop-pixel
invariant-loop-pixel l =
    l.colors.items ≡ map (color_at l.pixels) (range_with_len 0 l.pixel)
