-- The elements of a chain: those of the list before, and the last.
use Rattle.std.specs.Prelude.{List, [], ◌∷◌, ◌++◌}
use Rattle.sixel_base.specs.declared.ghost_list.Chain.{Chain}
use Rattle.sixel_base.specs.declared.ghost_list.Chain.TheVariants.{Empty, More}

abbrev pub elements : {T : Type 0} → Chain T → List T
elements Empty = []
elements (More before last) = before.value ++ last ∷ []
