use Rattle.std.{proofs.Common.{◌≡◌, ℕ, ◌*◌, ◌/◌, ◌%◌, ◌<◌, ◌≤◌, length}, specs.Prelude.slice_index}
use Rattle.sixel_canvas.specs.Layout.{in_order, pixel_at}
use Rattle.sixel_canvas.proofs.channels.reorder.Given as goal

abbrev pub invariant-ordered : goal.invariant-ordered
invariant-ordered l =
    (length l.pixels ≡ length l.fn.pixels)
    × ((i : ℕ) → i < 4 * l.column
    → slice_index l.pixels i
    ≡ slice_index (in_order l.order (pixel_at l.fn.pixels (i / 4))) (i % 4))
    × ((i : ℕ) → 4 * l.column ≤ i → slice_index l.pixels i ≡ slice_index l.fn.pixels i)
