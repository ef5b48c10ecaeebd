use Rattle.std.proofs.Common.{◌≡◌, ℕ, ◌+◌, ◌<◌, ◌≤◌, List, length, get_or}
use Rattle.sixel_palette.{proofs.nearest_entries.Keys.none, specs.inside.Keys.{key_of, IsInCube}}
use Rattle.sixel_palette.proofs.palette.nearest.cube.Cube.least_keys.Given as goal

abbrev pub invariant-loop-lane : goal.invariant-loop-lane
invariant-loop-lane l = record {
  size : length l.keys ≡ 64;
  least : (k : ℕ) → k < l.lane → (c : List ℕ) → IsInCube l.self c
      → get_or l.keys k 0 ≤ key_of (get_or l.entries (l.from + k) none) c;
}
