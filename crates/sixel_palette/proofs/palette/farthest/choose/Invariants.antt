use Rattle.std.proofs.Common.{◌≡◌, ◌<◌, length, get_or}
use Rattle.sixel_palette.specs.{Palette.{IsFarthest, IsFarthestFirst}, inside.Codes.color_of}
use Rattle.sixel_palette.specs.{inside.Codes.IsListed, inside.Traversal.{IsTraversal, HasRelaxed}}
use Rattle.sixel_palette.proofs.palette.farthest.choose.Given as goal

abbrev pub invariant-loop-index : goal.invariant-loop-index
invariant-loop-index l = record {
  order : IsFarthestFirst (IsListed l.codes) l.colors.items;
  size : length l.colors.items ≡ l.index;
  whole : IsTraversal l.codes l.traversal;
  relaxed : HasRelaxed l.colors.items l.codes l.traversal;
  within : 0 < length l.codes → l.farthest < length l.codes;
  farthest : 0 < length l.codes
      → IsFarthest (IsListed l.codes) l.colors.items (color_of (get_or l.codes l.farthest 0));
}
