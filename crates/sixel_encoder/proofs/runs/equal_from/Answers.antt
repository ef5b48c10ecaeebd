use Rattle.std.proofs.{Common.arith, lemmas.Bool.Decides.nat_tests}
use Rattle.sixel_encoder.proofs.band_rows.Lanes.{mask_is, all_equal, first_equal, first_other}
use Rattle.sixel_encoder.proofs.runs.equal_from.Goals as goal

pub returns-then-others-eq0-clause-run : goal.returns-then-others-eq0-clause-run
returns-then-others-eq0-clause-run c =
    all_equal 16 c.args.row.now c.args.at c.args.bits _ c.requires
    (mask_is 16 c.args.row.now c.args.at c.args.bits (omega arith) c.requires) c.if-others-eq0.true

pub returns-else-others-eq0-clause-run : goal.returns-else-others-eq0-clause-run
returns-else-others-eq0-clause-run c =
    first_equal c.args.row.now c.args.at c.args.bits _ c.requires
    (mask_is 16 c.args.row.now c.args.at c.args.bits (omega arith) c.requires) c.if-others-eq0.false

pub returns-else-others-eq0-clause-stop : goal.returns-else-others-eq0-clause-stop
returns-else-others-eq0-clause-stop c = λ few.
    let other =
    first_other c.args.row.now c.args.at c.args.bits _ c.requires
    (mask_is 16 c.args.row.now c.args.at c.args.bits (omega arith) c.requires)
    c.if-others-eq0.false (omega (arith, few)) in
    grind (arith, nat_tests)
