use Rattle.std.proofs.Common.{◌≡◌, ℕ, ◌+◌, ◌*◌, ◌/◌, ◌%◌, ◌<◌, ◌≤◌, [], length, get_or}
use Rattle.sixel_palette.specs.inside.SixteenEntries.{beside, fixed_key}
use Rattle.sixel_palette.proofs.dithering.sixteen_entries.SixteenEntries.of.Given as goal

abbrev pub invariant-loop-index : goal.invariant-loop-index
invariant-loop-index l = record {
  size : length l.codes ≡ 16;
  size_fixed : length l.fixed ≡ 16;
  bytes : (k j : ℕ) → k < l.index → j < 3 → get_or (get_or l.colors k []) j 0 < 256;
  codes : (k : ℕ) → k < l.index
      → get_or l.codes k 0
      ≡ get_or (get_or l.colors k []) 0 0 + 256 * get_or (get_or l.colors k []) 1 0
      + 65536 * get_or (get_or l.colors k []) 2 0;
  fixed : (k : ℕ) → k < l.index → get_or l.fixed k 0 ≡ fixed_key l.colors k;
  small : (k : ℕ) → k < l.index → get_or l.fixed k 0 ≤ 29262095;
}

abbrev pub invariant-loop-at : goal.invariant-loop-at
invariant-loop-at l = record {
  size_before : length l.before ≡ 272;
  size_above : length l.above ≡ 272;
  before : (i : ℕ) → i < l.at
      → get_or l.before i 0 ≡ beside l.colors l.tolerance (i / 16) 16 (i % 16);
  above : (i : ℕ) → i < l.at
      → get_or l.above i 0 ≡ beside l.colors l.tolerance (i / 16) 32 (i % 16);
}
