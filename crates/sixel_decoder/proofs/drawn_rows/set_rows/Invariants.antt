use Rattle.std.proofs.Common.{◌≡◌}
use Rattle.sixel_base.specs.DrawnHeight.{set_rows_within}
use Rattle.sixel_decoder.proofs.drawn_rows.set_rows.Given as goal

abbrev pub invariant-rows : goal.invariant-rows
invariant-rows l = l.rows ≡ set_rows_within l.bits l.bit
