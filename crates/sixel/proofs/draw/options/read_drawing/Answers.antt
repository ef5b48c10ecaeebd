use Rattle.std.proofs.{Common.arith, lemmas.Bool.Decides.nat_tests}
use Rattle.sixel.proofs.FirstWords.{two_words}
use Rattle.sixel.proofs.draw.options.read_drawing.Goals as goal

pub options-preserved-then-eq : goal.options-preserved-then-eq
options-preserved-then-eq c = grind (arith, nat_tests, two_words)

pub options-preserved : goal.options-preserved
options-preserved c = grind (arith, nat_tests, two_words)
