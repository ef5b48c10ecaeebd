use Rattle.std.proofs.Common.{ap, arith}
use Rattle.sixel_base.proofs.KeptFields.{Keeps-push_separator}
use Rattle.sixel_base.proofs.parameters.Parameters.push_separator.Goals as goal

pub returns : goal.returns
returns c =
    let counts = ap (λ p. p.count) c.self.view_is in
    Keeps-push_separator c.args.self.now
    (record { values = c.self.inside.values; count = c.min-self-inside.result })
    (ap (λ p. p.values) c.self.view_is) (omega arith)
