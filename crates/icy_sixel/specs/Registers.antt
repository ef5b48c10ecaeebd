-- Registers that are set together.
use Rattle.std.specs.Prelude.{ℕ, ◌+◌, List, [], ◌∷◌, slice_set}

-- the registers with these colors from `first` on; colors that are left after the last register
-- have no effect
unfoldable pub with_colors : List (List ℕ) → ℕ → List (List ℕ) → List (List ℕ)
with_colors registers first [] = registers
with_colors registers first (color ∷ colors) =
    with_colors (slice_set registers first color) (first + 1) colors
