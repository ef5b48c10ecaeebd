use Rattle.std.proofs.Common.{◌≡◌, map, take}
use Rattle.std.specs.List.{All}
use Rattle.sixel_palette.specs.{Refined.{IsRegisterColor, register_color}, inside.Codes.color_of}
use Rattle.sixel_palette.proofs.palette.refined.register_colors.Given as goal

abbrev pub invariant-loop-position : goal.invariant-loop-position
invariant-loop-position l = record {
  shown : All IsRegisterColor l.colors.items;
  same : l.colors.items ≡ map (λ code. register_color (color_of code)) (take l.position l.codes);
}
