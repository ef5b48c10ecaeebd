use Rattle.std.{proofs.Common.{◌≡◌, ℕ, ◌+◌, ◌-◌, ◌*◌, ◌≤◌}, specs.Prelude.{nat_lt, if◌then◌else◌}}
use Rattle.sixel_canvas.{specs.inside.Band.cell, specs.inside.RowsState.final}
use Rattle.sixel_canvas.proofs.band_canvas.append_band.Given as goal

abbrev pub invariant-blank : goal.invariant-blank
invariant-blank l =
    (l.rows.rows ≡ l._row)
    × (l.rows.width ≡ l.initial.rows.width)
    × (4 * ((l.top + 6) * l.rows.width) ≤ l.rows.room)
    × (l.rows.background ≡ l.fn.rows.background)
    × (l.rows.moved ≡ l.fn.rows.moved)
    × (l.rows.shifts ≡ l.fn.rows.shifts)
    × ((column row : ℕ) → final l.rows column row ≡ final l.fn.rows column row)

abbrev pub invariant-appended : goal.invariant-appended
invariant-appended l =
    (l.rows.rows ≡ l.top + l.k)
    × (l.rows.width ≡ l.initial.rows.width)
    × (4 * ((l.top + 6) * l.rows.width) ≤ l.rows.room)
    × (l.rows.background ≡ l.fn.rows.background)
    × (l.rows.moved ≡ l.fn.rows.moved)
    × (l.rows.shifts ≡ l.fn.rows.shifts)
    × ((column row : ℕ)
    → final l.rows column row
    ≡ (if nat_lt row l.top then final l.fn.rows column row else if nat_lt row (l.top + l.k)
    then cell l.band.pixels column (row - l.top) else l.fn.rows.background))
