use Rattle.std.proofs.Common.{[], get_or, arith}
use Rattle.sixel_palette.specs.inside.{Codes.color_of, Keys.{cube_position, group_position}}
use Rattle.sixel_palette.proofs.colors.Colors.{IsColor, IsColor-color_of, distance-lt}
use Rattle.sixel_palette.proofs.nearest_entries.Nearest.{nearest-le}
use Rattle.sixel_palette.proofs.palette.nearest.Search.new.Goals as goal

pub returns : goal.returns
returns c =
    let colors = c.args.colors.now in
    let entries = c.loop-index.entries.items in
    record {
      lists = record {
        group_count = c.in_ok-groups.ensures.size;
        cube_count = c.in_ok-cubes.ensures.size;
        groups = c.in_ok-groups.ensures.lists group_position entries;
        cubes = c.in_ok-cubes.ensures.lists cube_position entries;
      };
      numbered = record {
        few = c.requires;
        size = omega (arith, c.loop-index.invariant.size);
        each = λ k l. c.loop-index.invariant.each k (omega arith);
      };
      some = λ some code small.
          let first : IsColor (get_or colors 0 []) = record {
            three = c.told-colors 0 some;
            bytes = λ k l. c.color_bytes.ensures 0 [] some k 0 (omega arith);
          } in
          let lt = distance-lt _ (color_of code) first (IsColor-color_of code small) in
          omega (arith, nearest-le colors (color_of code) 0 [] some, lt);
    }
