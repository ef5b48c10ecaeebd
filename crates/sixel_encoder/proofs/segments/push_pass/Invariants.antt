use Rattle.std.proofs.Common.{◌≡◌, ◌++◌, drop}
use Rattle.sixel_encoder.specs.Segments.{in_pass, after_pass}
use Rattle.sixel_encoder.proofs.segments.push_pass.Given as goal

abbrev pub invariant-loop-segment : goal.invariant-loop-segment
invariant-loop-segment l = record {
  ordered : l.ordered.items ++ in_pass l.column (drop l.segment-index l.segments)
      ≡ l.initial.ordered.items ++ in_pass 0 l.segments;
  rest : l.rest.items ++ after_pass l.column (drop l.segment-index l.segments)
      ≡ l.initial.rest.items ++ after_pass 0 l.segments;
}
