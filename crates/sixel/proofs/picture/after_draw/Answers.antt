use Rattle.std.proofs.Common.{arith}
use Rattle.std.proofs.lemmas.{Bool.Decides.{Decides-eqb, nat_tests}, Slice.Eq.slice_eq-Decides}
use Rattle.sixel.proofs.FirstWords.{first_word}
use Rattle.sixel.proofs.picture.after_draw.Goals as goal

pub returns-in-len1-up : goal.returns-in-len1-up
returns-in-len1-up c = grind (arith, nat_tests, slice_eq-Decides, Decides-eqb, first_word)
