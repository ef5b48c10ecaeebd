use Rattle.std.{proofs.Common.{◌≡◌, ◌≤◌, ℕ, [], All, get_or, length}, specs.Prelude.vec_capacity}
use Rattle.sixel_canvas.specs.inside.RowBand.{IsRowBand}
use Rattle.sixel_canvas.proofs.row_canvas.add_bands.Given as goal

abbrev pub invariant-made : goal.invariant-made
invariant-made l =
    (length l.bands.items ≡ l._band)
    × (l._band ≤ l.count)
    × (l.count ≤ vec_capacity l.bands)
    × (vec_capacity l.bands ≡ vec_capacity l.initial.bands)
    × ((band : ℕ) → get_or l.bands.items band [] ≡ get_or l.fn.bands.items band [])
    × (All IsRowBand l.fn.bands.items → All IsRowBand l.bands.items)
