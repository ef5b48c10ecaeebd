use Rattle.std.proofs.{Common.{[], ◌∙◌, arith, rules}, lemmas.List.FromFn.fill_by_all}
use Rattle.sixel_base.proofs.DefaultCodes.{coded_color, map-coded_color}
use Rattle.sixel_base.proofs.registers.Registers.new.Goals as goal

pub returns-clause-colors : goal.returns-clause-colors
returns-clause-colors c =
    let loop = c.loop-register in
    fill_by_all coded_color loop.colors 256 [] loop.invariant.size
    (λ k below. loop.invariant.colored k (omega arith))
    ∙ map-coded_color

pub loop-register-preserved : goal.loop-register-preserved
loop-register-preserved c = search rules
