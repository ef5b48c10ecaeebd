use Rattle.std.proofs.Common.{◌≡◌, ℕ, ◌+◌, ◌-◌, [], length, get_or}
use Rattle.std.specs.Prelude.{nat_lt, if◌then◌else◌}
use Rattle.sixel_canvas.specs.inside.ReleasedRows.{row_bytes}
use Rattle.sixel_canvas.proofs.released_rows.append_rows.Given as goal

abbrev pub invariant-rows : goal.invariant-rows
invariant-rows l =
    (length l.gone ≡ length l.fn.gone + l.row)
    × ((row : ℕ)
    → get_or l.gone row []
    ≡ (if nat_lt row (length l.fn.gone) then get_or l.fn.gone row []
    else if nat_lt row (length l.fn.gone + l.row)
    then row_bytes l.rows (row - length l.fn.gone) else []))
