use Rattle.std.{proofs.Common.{◌≡◌, ◌*◌, length, take}, specs.Prelude.{◌/◌}}
use Rattle.sixel_base.specs.Picture.{joined}
use Rattle.sixel_palette.specs.{Pattern.moved_pixel, inside.Mapped.pattern_value}
use Rattle.sixel_palette.proofs.dithering.ordered.fill.Given as goal

-- the pixels so far
abbrev pub invariant-loop-pixel : goal.invariant-loop-pixel
invariant-loop-pixel l =
    (take (4 * l.pixel) l.moved
    ≡ joined (moved_pixel (pattern_value l.image.colors.now l.pattern) l.image.width
    l.image.pixels.now) l.pixel)
    × (length l.moved ≡ 4 * (length l.image.pixels.now / 4))
