use Rattle.sixel_palette.proofs.traversal.Farthest.{nearest_from_entry}
use Rattle.std.proofs.{Common.arith, lemmas.Bool.Decides.nat_tests}
use Rattle.sixel_palette.proofs.palette.nearest.Search.nearest_to.Goals as goal

pub returns-clause-search : goal.returns-clause-search
returns-clause-search c =
    grind (arith, nat_tests, c.in_ok-near.ensures.search, c.in_ok-near.ensures.entries)

pub returns-clause-nearest : goal.returns-clause-nearest
returns-clause-nearest c = λ colors some is.
    let code = c.code_of-code.ensures in
    nearest_from_entry _ _ _ (rw code.color at (is.some some c.code_of-code.result code.small))
    (rw code.color at (c.in_ok-near.ensures.nearest colors is.numbered))

pub returns-clause-squared : goal.returns-clause-squared
returns-clause-squared c = λ colors is.
    rw c.code_of-code.ensures.color at (c.in_ok-near.ensures.nearest colors is.numbered).gap
