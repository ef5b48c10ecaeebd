use Rattle.sixel_encoder.specs.inside.Grid.{HasColumns, AreMarks}
use Rattle.sixel_encoder.proofs.band.add_sixteen.Given as goal

abbrev pub invariant-loop-one : goal.invariant-loop-one
invariant-loop-one l = record {
  cells : HasColumns l.image l.line l.column l.one l.initial.rows l.rows;
  marks : AreMarks l.rows l.used l.image.width;
}
