use Rattle.std.proofs.Common.{string_bytes}
use Rattle.sixel_encoder.{proofs.band_rows.Parts.Progress, specs.inside.Grid.IsSameShape}
use Rattle.sixel_encoder.proofs.band.BandRows.push_rows.Given as goal

abbrev pub invariant-loop-row : goal.invariant-loop-row
invariant-loop-row l = record {
  progress : Progress (string_bytes l.initial.text) (string_bytes l.text) l.initial.self.rows.items
      l.self.rows.items l.initial.self.used.items l.self.used.items l.initial.self.width
      l.initial.self.first l.row;
  shape : IsSameShape l.initial.self l.self;
}
