use Rattle.std.proofs.{Common.{arith, append_assoc}, lemmas.Bool.Decides.nat_tests}
use Rattle.sixel_encoder.proofs.band_rows.ShortestRows.{tokens_repeat}
use Rattle.sixel_encoder.proofs.run_tokens.push_run.Goals as goal

pub repeats-preserved : goal.repeats-preserved
repeats-preserved c = grind (arith, nat_tests, tokens_repeat, append_assoc, c.min-repeat.ensures)
