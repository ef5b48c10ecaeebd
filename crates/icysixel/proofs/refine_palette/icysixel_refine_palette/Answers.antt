use Rattle.std.proofs.{Common.{◌∙◌, ap, sym, take, arith}, lemmas.Bool.Decides.nat_tests}
use Rattle.sixel_base.specs.CallFault.{ColorCount}
use Rattle.icysixel.proofs.refine_palette.icysixel_refine_palette.Goals as goal

pub write_refined-requires-clause-colors : goal.write_refined-requires-clause-colors
write_refined-requires-clause-colors c = grind (arith, nat_tests)

pub returns-in-Ok-clause-refined : goal.returns-in-Ok-clause-refined
returns-in-Ok-clause-refined c = λ _. record {
  palette = c.in-Ok.palette;
  is_refined = c.in-Ok.ensures.refined;
  colors_written = c.write_refined.ensures.colors;
  indices_written =
      ap (λ n. take n c.write_refined.new.indices) (sym c.in-Ok.ensures.refined.indices.one_each)
      ∙ c.write_refined.ensures.indices;
  error = c.write_refined.ensures.error;
}

pub returns-in-Err-clause-count : goal.returns-in-Err-clause-count
returns-in-Err-clause-count c = λ whole _ _ e.
    c.code_of.ensures.call ColorCount (c.in-Err.ensures.colors whole e)
