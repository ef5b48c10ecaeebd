use Rattle.std.proofs.Common.{◌≡◌, ℕ, ◌<◌, ◌≤◌, get_or}
use Rattle.sixel_palette.proofs.dithering.sixteen_entries.SixteenEntries.index_of.Given as goal

abbrev pub invariant-loop-lane : goal.invariant-loop-lane
invariant-loop-lane l = record {
  lower : (j : ℕ) → j < l.lane → l.least ≤ get_or l.keys j 0;
  reached : (j : ℕ) × (j < 16) × (get_or l.keys j 0 ≡ l.least);
}
