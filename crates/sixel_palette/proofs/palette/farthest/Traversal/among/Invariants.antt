use Rattle.std.proofs.Common.{take}
use Rattle.sixel_palette.specs.inside.Traversal.{IsTraversal, HasRelaxed}
use Rattle.sixel_palette.proofs.palette.farthest.Traversal.among.Given as goal

abbrev pub invariant-loop-index : goal.invariant-loop-index
invariant-loop-index l = record {
  whole : IsTraversal l.codes l.traversal;
  relaxed : HasRelaxed (take l.index l.colors) l.codes l.traversal;
}
