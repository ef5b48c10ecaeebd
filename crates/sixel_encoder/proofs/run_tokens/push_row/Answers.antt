use Rattle.std.proofs.{Common.{arith, append_assoc}, lemmas.Bool.Decides.nat_tests}
use Rattle.sixel_encoder.proofs.band_rows.ShortestRows.{tokens_run}
use Rattle.sixel_encoder.proofs.run_tokens.push_row.Goals as goal

pub runs-preserved : goal.runs-preserved
runs-preserved c =
    let told = c.end_of_sixels-end.ensures in
    let run = tokens_run c.args.row.now c.runs.at _ _ told.some told.run told.stop in
    grind (arith, nat_tests, append_assoc)
