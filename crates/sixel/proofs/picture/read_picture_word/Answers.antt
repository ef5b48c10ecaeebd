use Rattle.std.proofs.Common.{arith}
use Rattle.std.proofs.lemmas.{Bool.Decides.{Decides-eqb, nat_tests}, Slice.Eq.slice_eq-Decides}
use Rattle.sixel.proofs.FirstWords.{only_word}
use Rattle.sixel.proofs.picture.read_picture_word.Goals as goal

pub returns-in-len1-clause-asked : goal.returns-in-len1-clause-asked
returns-in-len1-clause-asked c = grind (arith, nat_tests, slice_eq-Decides, Decides-eqb, only_word)
