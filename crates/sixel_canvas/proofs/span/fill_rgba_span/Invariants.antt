use Rattle.std.proofs.Common.{◌≡◌, ◌%◌, ℕ, ◌-◌, ◌<◌, ◌≤◌, length, get_or}
use Rattle.sixel_canvas.proofs.span.fill_rgba_span.Given as goal

abbrev pub invariant-by_pixel : goal.invariant-by_pixel
invariant-by_pixel l =
    (l.at ≤ length l.span) × (l.at % 4 ≡ 0)
    × ((k : ℕ) → k < l.at → get_or l.span k 0 ≡ get_or l.color (k % 4) 0)

abbrev pub decreases-by_pixel : goal.decreases-by_pixel
decreases-by_pixel l = length l.span - l.at
