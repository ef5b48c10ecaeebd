use Rattle.std.{proofs.Common.{◌≡◌, ◌*◌, length, take}, specs.Prelude.{◌/◌}}
use Rattle.sixel_base.specs.Picture.{joined}
use Rattle.sixel_palette.specs.Gray.{gray_pixel}
use Rattle.sixel_palette.proofs.dithering.gray.fill.Given as goal

-- the pixels so far
abbrev pub invariant-loop-pixel : goal.invariant-loop-pixel
invariant-loop-pixel l =
    (take (4 * l.pixel) l.grays ≡ joined (gray_pixel l.pixels) l.pixel)
    × (length l.grays ≡ 4 * (length l.pixels / 4))
