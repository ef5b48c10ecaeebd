use Rattle.std.{proofs.Common.arith, proofs.lemmas.Bool.Decides.nat_tests, specs.Prelude.Err}
use Rattle.std.{specs.Prelude.String, specs.declared.alloc.Global.Global}
use Rattle.sixel_base.specs.CallFault.{FailsBy}
use Rattle.icysixel.{proofs.Calls.failed_by_code, specs.Encodings.rows_fault}
use Rattle.icysixel.proofs.encoding.Encoding.text_of_image.Goals as goal

pub returns-in-Err-clause-colors : goal.returns-in-Err-clause-colors
returns-in-Err-clause-colors c =
    let fails : FailsBy {X = String Global} (rows_fault c.args.self.now c.args.rows.now)
    (Err c.in-Err.error) = grind (arith, nat_tests) in
    failed_by_code _ _ c.in-Err.error c.code_of.result _ fails
    c.code_of.ensures.memory c.code_of.ensures.call
