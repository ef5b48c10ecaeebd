use Rattle.std.proofs.Common.{◌≡◌, ℕ, ◌<◌, ◌++◌, List, length, map, get_or, take}
use Rattle.std.specs.List.{All}
use Rattle.sixel_palette.specs.{Palette.{IsFarthest, nearest}, Refined.{IsFarOff, IsRegisterColor}}
use Rattle.sixel_palette.specs.{Refined.register_color, inside.Codes.{IsListed, color_of}}
use Rattle.sixel_palette.specs.inside.Traversal.{IsTraversal, HasRelaxed}
use Rattle.sixel_palette.proofs.palette.farthest_on_top.add_farthest.Given as goal

abbrev pub invariant-loop-index : goal.invariant-loop-index
invariant-loop-index l = record {
  whole : IsTraversal l.codes l.traversal;
  relaxed : HasRelaxed l.colors.items l.codes l.traversal;
  size : length l.colors.items ≡ l.index;
  shown : All IsRegisterColor l.colors.items;
  tops : l.colors.items ≡ l.fn.assignment.colors.items ++ map register_color l.witnesses.items;
  order : (i : ℕ) (d : List ℕ) → i < length l.witnesses.items
      → IsFarOff (IsListed l.codes) (l.fn.assignment.colors.items ++ map register_color
      (take i l.witnesses.items))
      (get_or l.witnesses.items i d);
  within : l.farthest < length l.codes;
  farthest : IsFarthest (IsListed l.codes) l.colors.items (color_of (get_or l.codes l.farthest 0));
  square : get_or l.traversal.squares.items l.farthest 0
      ≡ nearest l.colors.items (color_of (get_or l.codes l.farthest 0));
}
