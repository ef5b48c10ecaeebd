use Rattle.std.proofs.Common.{◌*◌, ◌/◌}
use Rattle.sixel_encoder.specs.inside.Grid.{HasColumns, AreMarks}
use Rattle.sixel_encoder.proofs.band.add_whole_line.Given as goal

abbrev pub invariant-loop-sixteen : goal.invariant-loop-sixteen
invariant-loop-sixteen l = record {
  cells : HasColumns l.image l.line 0 (16 * l.sixteen) l.initial.rows l.rows;
  marks : AreMarks l.rows l.used l.image.width;
}

-- the columns after the last whole sixteen
abbrev pub invariant-loop-column : goal.invariant-loop-column
invariant-loop-column l = record {
  cells : HasColumns l.image l.line (16 * (l.image.width / 16)) l.column l.initial.rows l.rows;
  marks : AreMarks l.rows l.used l.image.width;
}
