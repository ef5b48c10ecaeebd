use Rattle.std.proofs.Common.{◌<◌, [], get_or, length, arith}
use Rattle.sixel_palette.proofs.colors.Colors.{IsColor, distance-lt}
use Rattle.sixel_palette.proofs.traversal.Choices.{IsColor-shown}
use Rattle.sixel_palette.proofs.nearest_entries.Nearest.{nearest-le}
use Rattle.sixel_palette.proofs.palette.nearest_indices.nearest_indices.Goals as goal

pub returns : goal.returns
returns c =
    let colors = c.args.colors.now in
    let some : 0 < length colors = c.requires.some in
    let first : IsColor (get_or colors 0 []) = record {
      three = c.told-colors 0 some;
      bytes = λ k l. c.color_bytes.ensures 0 [] some k 0 (omega arith);
    } in
    c.in_ok-indices_of.ensures colors c.in_ok-traversal.traversal.squares.items
    (rw c.deref-2.ensures.value (rw c.deref.ensures.value at c.in_ok-traversal.ensures.relaxed))
    (λ color shown.
    let small = distance-lt _ _ first (IsColor-shown _ _ (λ k. omega (arith, c.type_inv.pixels k))
    shown) in
    omega (arith, nearest-le colors color 0 [] some, small))
