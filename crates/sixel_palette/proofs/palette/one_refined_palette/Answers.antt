use Rattle.sixel_palette.proofs.refinement.One.{refined_same}
use Rattle.sixel_palette.proofs.palette.one_refined_palette.Goals as goal

pub returns-clause-initial : goal.returns-clause-initial
returns-clause-initial c = λ p q max_colors x y bytes to from same f g.
    (refined_same p q max_colors x y bytes to from same f g).0

pub returns-clause-colors : goal.returns-clause-colors
returns-clause-colors c = λ p q max_colors x y bytes to from same f g.
    (refined_same p q max_colors x y bytes to from same f g).1
