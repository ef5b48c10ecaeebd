use Rattle.std.proofs.Common.{◌≡◌, ℕ, ◌+◌, ◌*◌, ◌≤◌, ◌<◌, drop, length}
use Rattle.std.specs.Prelude.{max, nat_lt, if◌then◌else◌, vec_capacity}
use Rattle.sixel_canvas.specs.Layout.{pixel_at}
use Rattle.sixel_canvas.proofs.final_rows.FinalRows.lay_out.Given as goal

abbrev pub invariant-copied : goal.invariant-copied
invariant-copied l =
    let old = l.self-inside in
    let stored = drop (4 * (old.free * old.width)) old.bytes.items in
    (length l.bytes.items ≡ 4 * (l.row * l.width))
    × (4 * (max l.rows old.rows * l.width) ≤ vec_capacity l.bytes)
    × ((column row : ℕ) → column < l.width → row < l.row
    → pixel_at l.bytes.items (row * l.width + column)
    ≡ (if nat_lt column old.width then pixel_at stored (row * old.width + column)
    else old.background))
