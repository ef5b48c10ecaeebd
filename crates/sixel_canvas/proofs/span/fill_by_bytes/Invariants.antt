use Rattle.std.proofs.Common.{◌≡◌, ◌%◌, ℕ, ◌<◌, get_or}
use Rattle.sixel_canvas.proofs.span.fill_by_bytes.Given as goal

abbrev pub invariant-by_byte : goal.invariant-by_byte
invariant-by_byte l = (k : ℕ) → k < l.i → get_or l.span k 0 ≡ get_or l.color (k % 4) 0
