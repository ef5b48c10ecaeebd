-- The nearest entry of each distinct color, with the summed squared error, and more entries on top.
use Rattle.std.specs.{List.sum, Prelude.{◌≡◌, ℕ, ◌<◌, ◌≤◌, List, map, length, All}}
use Rattle.sixel_base.specs.Limits.{area_limit}
use Rattle.sixel_palette.specs.declared.palette.assignment.Assignment.{Assignment}
use Rattle.sixel_palette.specs.declared.palette.refined.Start.{Start}
use Rattle.sixel_palette.specs.Refined.{IsRegisterColor, base_entries, cut_entries, register_color}
use Rattle.sixel_palette.specs.inside.{Codes.color_of, Counts.counted_error, Sums.counted_pixels}
use Rattle.sixel_palette.specs.inside.Traversal.{IsTraversal, HasRelaxed}

-- each code has a count, and there are no more pixels than the greatest image has
pub record IsWeighed (codes counts : List ℕ) : Type 0 where
  pub same : length counts ≡ length codes
  pub few : sum counts ≤ area_limit

-- the distances and the palette indices are those of the nearest entries
pub record IsAssignment (codes : List ℕ) (assignment : Assignment) : Type 0 where
  pub whole : IsTraversal codes assignment.traversal
  pub relaxed : HasRelaxed assignment.colors.items codes assignment.traversal

-- the entries before the rounds and after them: all are register colors, and the error falls; with
-- at most as many colors as entries, these are the entries
pub record IsStart (codes counts : List ℕ) (room : ℕ) (start : Start) : Type 0 where
  pub initial_shown : All IsRegisterColor start.initial.items
  pub initial_few : length start.initial.items ≤ room
  pub initial_some : 0 < length codes → 0 < length start.initial.items
  pub assignment : IsAssignment codes start.assignment
  pub shown : All IsRegisterColor start.assignment.colors.items
  pub size : length start.assignment.colors.items ≡ length start.initial.items
  pub falls : counted_error start.assignment.colors.items codes counts
      ≤ counted_error start.initial.items codes counts
  pub whole : length codes ≤ room
      → (start.initial.items ≡ map (λ code. register_color (color_of code)) codes)
      × (start.assignment.colors.items ≡ map (λ code. register_color (color_of code)) codes)
  pub cut : room < length codes
      → (start.initial.items ≡ cut_entries (counted_pixels codes counts) room)
      × (start.assignment.colors.items ≡ base_entries (counted_pixels codes counts) room)
