use Rattle.std.proofs.Common.{◌≡◌, ◌++◌, string_bytes, replicate}
use Rattle.sixel_encoder.specs.RunTokens.{One, run_tokens, written}
use Rattle.sixel_encoder.proofs.run_tokens.push_run.Given as goal

abbrev pub invariant-repeats : goal.invariant-repeats
invariant-repeats l =
    string_bytes l.text ++ written (run_tokens l.rest l.bits)
    ≡ string_bytes l.initial.text ++ written (run_tokens l.count l.bits)

abbrev pub decreases-repeats : goal.decreases-repeats
decreases-repeats l = l.rest

abbrev pub invariant-loop : goal.invariant-loop
invariant-loop l =
    string_bytes l.text ≡ string_bytes l.initial.text ++ written (replicate l.counter (One l.bits))
