use Rattle.std.proofs.Common.{ℕ, ◌+◌, ◌*◌, ◌<◌, ◌≤◌, get_or}
use Rattle.icy_sixel.proofs.sixel_image.SixelImage.has_transparency.Given as goal

abbrev pub invariant-loop-pixel : goal.invariant-loop-pixel
invariant-loop-pixel l = (k : ℕ) → k < l.pixel → 128 ≤ get_or l.self.pixels.items (4 * k + 3) 0
