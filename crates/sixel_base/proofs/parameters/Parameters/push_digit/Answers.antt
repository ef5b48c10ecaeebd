use Rattle.std.proofs.Common.{ap, arith}
use Rattle.sixel_base.proofs.KeptFields.{Keeps-push_digit_kept, Keeps-push_digit_dropped}
use Rattle.sixel_base.specs.inside.Parameters.{Parameters}
use Rattle.sixel_base.proofs.parameters.Parameters.push_digit.Goals as goal
use Rattle.sixel_base.proofs.parameters.Parameters.push_digit.Goals.{then-last-lt-KEPT_FIELDS}
use Rattle.sixel_base.proofs.parameters.Parameters.push_digit.Goals.{else-last-lt-KEPT_FIELDS}

pub returns : goal.returns
returns c =
    let inside = c.self.inside in
    let joined = c.if-last-lt-KEPT_FIELDS in
    let old : Parameters = record { values = inside.values; count = inside.count } in
    let new : Parameters = record {
      values = joined.self-inside.values;
      count = c.max-self-inside.result;
    } in
    λ text keeps.
    let keeps_old = rw (← c.self.view_is) at keeps in
    elim joined.branch [
      | then-last-lt-KEPT_FIELDS w ↦
          let values = ap (λ p. p.values) w.self-inside-is in
          let counts = ap (λ p. p.count) w.self-inside-is in
          Keeps-push_digit_kept text c.args.byte (omega arith) (omega arith) old new
          c.saturating_sub-last.result w.with_digit.result c.saturating_sub-last.ensures
          w.if-last-lt-KEPT_FIELDS.true c.self.told values w.with_digit.ensures (omega arith)
          keeps_old
      | else-last-lt-KEPT_FIELDS w ↦
          let values = ap (λ p. p.values) w.self-inside-is in
          let counts = ap (λ p. p.count) w.self-inside-is in
          Keeps-push_digit_dropped text c.args.byte (omega arith) (omega arith) old new
          (omega arith) values (omega arith) keeps_old
    ]
