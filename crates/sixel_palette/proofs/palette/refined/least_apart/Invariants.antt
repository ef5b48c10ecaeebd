use Rattle.std.proofs.Common.{◌≡◌, ℕ, ◌<◌, ◌≤◌, List, get_or}
use Rattle.sixel_palette.specs.Palette.{distance, no_entry}
use Rattle.sixel_palette.proofs.palette.refined.least_apart.Given as goal

abbrev pub invariant-loop-position : goal.invariant-loop-position
invariant-loop-position l = record {
  small : l.least < no_entry;
  apart : (i j : ℕ) (d : List ℕ) → i < j → j < l.position
      → l.least ≤ distance (get_or l.colors i d) (get_or l.colors j d);
  reached : (d : List ℕ) → (i j : ℕ) × (i < j) × (j < l.position)
      × (distance (get_or l.colors i d) (get_or l.colors j d) ≡ l.least);
}
