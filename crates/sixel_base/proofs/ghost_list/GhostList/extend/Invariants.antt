use Rattle.std.proofs.Common.{◌≡◌, ◌++◌, drop}
use Rattle.sixel_base.proofs.ghost_list.GhostList.extend.Given as goal

abbrev pub invariant-elements : goal.invariant-elements
invariant-elements g l = l.self ++ drop l.element-index l.elements ≡ l.initial.self ++ l.elements
