use Rattle.std.proofs.Common.{◌≡◌, ℕ, ◌<◌, [], length, get_or}
use Rattle.sixel_palette.proofs.nearest_entries.Keys.{none}
use Rattle.sixel_palette.proofs.palette.nearest.Search.new.Given as goal

abbrev pub invariant-loop-index : goal.invariant-loop-index
invariant-loop-index l = record {
  size : length l.entries.items ≡ l.index;
  each : (k : ℕ) → k < l.index
      → get_or l.entries.items k none ≡ record { color = get_or l.colors k []; index = k };
}
