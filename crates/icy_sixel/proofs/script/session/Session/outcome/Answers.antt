use Rattle.icy_sixel.proofs.Outcomes.{fails}
use Rattle.std.proofs.{Common.arith, lemmas.Bool.Decides.nat_tests}
use Rattle.icy_sixel.proofs.script.session.Session.outcome.Goals as goal

pub returns-in-Err : goal.returns-in-Err
returns-in-Err c = grind (arith, nat_tests, fails, c.requires.begun, c.in-Err.ensures.error)
