use Rattle.std.proofs.Common.{sym, ◌∙◌}
use Rattle.sixel_base.proofs.Histories.{some_history, history_unique}
use Rattle.sixel_base.proofs.grammar.one_history.Goals as goal

pub returns-clause-some : goal.returns-clause-some
returns-clause-some c = some_history

pub returns-clause-only : goal.returns-clause-only
returns-clause-only c = λ bytes g h is also.
    history_unique bytes g is ∙ sym (history_unique bytes h also)
