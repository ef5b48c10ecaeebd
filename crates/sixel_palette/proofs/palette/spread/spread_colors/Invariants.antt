use Rattle.std.proofs.Common.{◌≡◌, ◌++◌, drop, map, take}
use Rattle.sixel_palette.specs.Spread.{spread_color}
use Rattle.sixel_palette.proofs.palette.spread.spread_colors.Given as goal

abbrev pub invariant-loop-position : goal.invariant-loop-position
invariant-loop-position l =
    let f = spread_color l.amount l.mean in
    l.colors ≡ map f (take l.position l.fn.colors) ++ drop l.position l.fn.colors
