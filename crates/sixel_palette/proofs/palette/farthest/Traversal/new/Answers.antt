use Rattle.sixel_palette.proofs.nearest_entries.NearestEntry.{nearest_none}
use Rattle.sixel_palette.proofs.colors.Lists.{all_replicated}
use Rattle.sixel_palette.proofs.palette.farthest.Traversal.new.Goals as goal

pub returns-clause-relaxed : goal.returns-clause-relaxed
returns-clause-relaxed c =
    let squares = c.in_ok-squares in
    let indices = c.in_ok-indices in
    let made = c.in_ok-traversal.ensures in
    rw (made.squares, made.indices)
    (nearest_none _ _ _ (all_replicated _ _ _ (squares.ensures.items_if_clones_equal (λ y e. e)))
    (all_replicated _ _ _ (indices.ensures.items_if_clones_equal (λ y e. e))))
