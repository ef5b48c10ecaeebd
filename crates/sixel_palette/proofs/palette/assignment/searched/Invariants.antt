use Rattle.std.proofs.Common.{◌≡◌, ℕ, ◌<◌, length, get_or}
use Rattle.sixel_palette.specs.inside.{Codes.color_of, Keys.{AreNumbered, IsSearch}}
use Rattle.sixel_palette.specs.inside.Nearest.{IsNearestEntry, nearest_at}
use Rattle.sixel_palette.proofs.palette.assignment.searched.Given as goal

abbrev pub invariant-loop-code : goal.invariant-loop-code
invariant-loop-code l = record {
  search : IsSearch l.search;
  numbered : AreNumbered l.colors l.search.entries.items;
  squares : length l.squares.items ≡ l.code-index;
  indices : length l.indices.items ≡ l.code-index;
  near : (k : ℕ) → k < l.code-index
      → IsNearestEntry l.colors (color_of (get_or l.codes k 0))
      (nearest_at l.squares.items l.indices.items k);
}
