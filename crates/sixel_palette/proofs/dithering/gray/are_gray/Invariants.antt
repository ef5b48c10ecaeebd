use Rattle.std.proofs.Common.{◌≡◌}
use Rattle.sixel_palette.specs.Gray.{are_gray}
use Rattle.sixel_palette.proofs.dithering.gray.are_gray.Given as goal

abbrev pub invariant-loop-position : goal.invariant-loop-position
invariant-loop-position l = l.gray ≡ are_gray l.colors l.position
