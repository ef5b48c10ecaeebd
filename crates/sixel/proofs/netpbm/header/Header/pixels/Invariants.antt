use Rattle.std.proofs.Common.{◌≡◌}
use Rattle.sixel.specs.netpbm.Raster.{first_pixels}
use Rattle.sixel.proofs.netpbm.header.Header.pixels.Given as goal

-- the pixels so far
abbrev pub invariant-pixels : goal.invariant-pixels
invariant-pixels l = l.pixels.items ≡ first_pixels l.self l.raster l.pixel
