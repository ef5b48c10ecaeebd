use Rattle.std.proofs.{Common.arith, lemmas.Bool.Decides.nat_tests}
use Rattle.icysixel.proofs.Ended.{zero_first, zero_after}
use Rattle.icysixel.proofs.strerror.write_text.Goals as goal

pub returns-then-text-buf-clause-text : goal.returns-then-text-buf-clause-text
returns-then-text-buf-clause-text c = grind (arith, nat_tests, zero_after)

pub returns-then-not-is_empty-clause-empty : goal.returns-then-not-is_empty-clause-empty
returns-then-not-is_empty-clause-empty c = λ some small. zero_first c.args.buf.now some
