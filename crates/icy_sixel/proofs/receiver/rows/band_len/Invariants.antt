use Rattle.std.proofs.Common.{◌≡◌, ◌<◌, ℕ, get_or}
use Rattle.icy_sixel.proofs.receiver.rows.band_len.Given as goal

abbrev pub invariant-bytes : goal.invariant-bytes
invariant-bytes l = (k : ℕ) → k < l.index → get_or l.chunk k 0 ≡ 45 → ⊥
