use Rattle.std.proofs.Common.{◌≡◌, ℕ, List, length, get_or}
use Rattle.sixel_canvas.specs.inside.Band.{filled}
use Rattle.sixel_canvas.proofs.pixel_row.fill.Given as goal

abbrev pub invariant-filled : goal.invariant-filled
invariant-filled l =
    (length l.pixels ≡ length l.fn.pixels)
    × ((d : List ℕ) (i : ℕ)
    → get_or l.pixels i d ≡ filled l.from l.i l.color i (get_or l.fn.pixels i d))
