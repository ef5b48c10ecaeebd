use Rattle.std.proofs.Common.{◌≡◌, ◌*◌, ◌+◌, ◌<◌, ◌≤◌, length, slice_index, ℕ}
use Rattle.sixel_encoder.specs.inside.{Bound.IsBound, Indexed.drawing_of}
use Rattle.sixel_encoder.proofs.bound.least_bytes.Given as goal

abbrev pub invariant-loop-column : goal.invariant-loop-column
invariant-loop-column l = record {
  bound : IsBound (drawing_of l.entries.image.now) l.entries.band l.column l.runs;
  size : length l.runs.starts ≡ 256;
  before : (entry : ℕ) → slice_index l.runs.starts entry < l.column;
  few : l.runs.bytes ≤ 84 * l.column;
}

abbrev pub invariant-loop-bit : goal.invariant-loop-bit
invariant-loop-bit l = record {
  bound : IsBound (drawing_of l.entries.image.now) l.entries.band l.column l.runs;
  size : length l.runs.starts ≡ 256;
  few : l.runs.bytes ≤ 84 * l.column + 14 * l.bit;
}
