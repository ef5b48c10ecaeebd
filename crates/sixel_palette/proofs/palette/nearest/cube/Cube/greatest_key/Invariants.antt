use Rattle.std.proofs.Common.{ℕ, ◌≤◌, List, take}
use Rattle.sixel_palette.specs.inside.Keys.{least_key, IsInCube}
use Rattle.sixel_palette.proofs.palette.nearest.cube.Cube.greatest_key.Given as goal

abbrev pub invariant-loop-entry : goal.invariant-loop-entry
invariant-loop-entry l =
    (c : List ℕ) → IsInCube l.self c → least_key (take l.entry-index l.entries) c ≤ l.greatest
