use Rattle.std.proofs.Common.{◌≡◌, ◌%◌, ℕ, ◌-◌, ◌<◌, ◌≤◌, length, get_or}
use Rattle.sixel_canvas.proofs.span.fill_by_fours.Given as goal

abbrev pub invariant-by_fours : goal.invariant-by_fours
invariant-by_fours l =
    (l.at ≤ length l.span) × (l.at % 4 ≡ 0)
    × ((k : ℕ) → k < l.at → get_or l.span k 0 ≡ get_or l.fn.color (k % 4) 0)

abbrev pub decreases-by_fours : goal.decreases-by_fours
decreases-by_fours l = length l.span - l.at
