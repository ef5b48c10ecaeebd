use Rattle.std.{proofs.Common.{◌≡◌, ℕ, ◌*◌, ◌<◌, length}, specs.Prelude.{nat_lt, if◌then◌else◌}}
use Rattle.sixel_canvas.specs.inside.Band.{stored}
use Rattle.sixel_canvas.proofs.six_rows.widened.Given as goal

abbrev pub invariant-copied : goal.invariant-copied
invariant-copied l =
    (length l.new.items ≡ l.row * l.wide)
    × ((column k : ℕ) → column < l.wide → k < l.row
    → stored l.new.items l.wide l.background column k
    ≡ (if nat_lt column l.cap then stored l.pixels l.cap l.background column k else l.background))
