use Rattle.std.proofs.Common.{◌≡◌, ◌*◌, length}
use Rattle.icysixel.specs.Rows.{rows_of}
use Rattle.icysixel.proofs.source_layout.SourceLayout.gathered.Given as goal

abbrev pub invariant-loop-row : goal.invariant-loop-row
invariant-loop-row l =
    (l.rows.items ≡ rows_of l.self.stride l.self.row_len l.row l.bytes)
    × (length l.rows.items ≡ l.self.row_len * l.row)
