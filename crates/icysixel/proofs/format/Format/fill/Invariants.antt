use Rattle.std.proofs.Common.{◌≡◌, ◌*◌, length, take}
use Rattle.icysixel.specs.Formats.{rgba_pixels}
use Rattle.icysixel.proofs.format.Format.fill.Given as goal

-- the pixels so far
abbrev pub invariant-pixels : goal.invariant-pixels
invariant-pixels l =
    (take (4 * l.pixel) l.pixels ≡ rgba_pixels l.self l.bytes l.pixel)
    × (length l.pixels ≡ 4 * l.count)
