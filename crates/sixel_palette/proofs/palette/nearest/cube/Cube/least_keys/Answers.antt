use Rattle.std.proofs.{Common.arith, lemmas.List.{get_or-take, get_or-drop, get_or-set_same}}
use Rattle.std.proofs.lemmas.List.{get_or-set_other, length-set}
use Rattle.sixel_palette.specs.inside.Keys.{key_of}
use Rattle.sixel_palette.proofs.palette.nearest.cube.Cube.least_keys.Goals as goal

pub loop-lane-preserved : goal.loop-lane-preserved
unfolding key_of
loop-lane-preserved c =
    grind (arith, get_or-take, get_or-drop, length-set, get_or-set_other, get_or-set_same)
