use Rattle.std.proofs.Common.{◌≡◌, ◌-◌, ◌≤◌, ◌++◌, string_bytes, length, drop}
use Rattle.sixel_encoder.specs.RunTokens.{written, row_tokens}
use Rattle.sixel_encoder.proofs.run_tokens.push_row.Given as goal

abbrev pub invariant-runs : goal.invariant-runs
invariant-runs l = record {
  within : l.at ≤ length l.row;
  text : string_bytes l.text ++ written (row_tokens (drop l.at l.row))
      ≡ string_bytes l.initial.text ++ written (row_tokens l.row);
}

abbrev pub decreases-runs : goal.decreases-runs
decreases-runs l = length l.row - l.at
