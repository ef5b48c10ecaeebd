use Rattle.icysixel.proofs.Calls.{finish_other}
use Rattle.icysixel.proofs.stream.icysixel_finish.Goals as goal

pub returns-clause-commanded : goal.returns-clause-commanded
returns-clause-commanded c = finish_other _ _ _ _ c.finish.ensures.finished
