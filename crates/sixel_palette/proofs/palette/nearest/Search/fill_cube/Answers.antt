use Rattle.std.proofs.Common.{◌≡◌, ℕ, ◌<◌, length, refl, ap, ◌∙◌, arith}
use Rattle.sixel_palette.specs.{declared.palette.nearest.Lists.Lists, inside.Codes.color_of}
use Rattle.sixel_palette.specs.{inside.Codes.code_count, inside.Keys.{HasNearest, cube_position}}
use Rattle.sixel_palette.proofs.palette.nearest.Search.fill_cube.Goals as goal

-- the group has the nearest entry of each color of the cube
wider : (c : goal.In_ok-filled) (other : ℕ) → other < code_count
    → cube_position other ≡ cube_position c.args.code
    → HasNearest c.args.self.now.entries.items (color_of other) c.group_of.new.self.groups
    c.in_ok-group.group
wider c other small same =
    c.in_ok-group.ensures.nearest other small (omega (arith, same, small, c.requires.small))

pub returns-clause-nearest : goal.returns-clause-nearest
returns-clause-nearest c =
    let small = c.requires.small in
    let around = c.cube_around.ensures c.args.code small refl in
    let near = c.in_ok-filled.ensures.span (color_of c.args.code) around in
    record {
      order = near.order;
      within = near.within;
      nearest = (rw c.deref.ensures.value at near.nearest) ∙ (wider c _ small refl).nearest;
    }

pub returns-clause-search : goal.returns-clause-search
returns-clause-search c =
    let search = c.in_ok-group.ensures.search in
    record {
      group_count = search.group_count;
      cube_count =
          c.in_ok-filled.ensures.size
          ∙ ap (λ (lists : Lists). length lists.spans.items) c.in_ok-group.ensures.cubes
          ∙ c.requires.search.cube_count;
      groups = search.groups;
      cubes =
          c.in_ok-filled.ensures.lists cube_position c.group_of.new.self.entries.items
          (λ code small e. c.cube_around.ensures code small (e ∙ c.cube_position.ensures.value))
          (λ code small e.
          rw (c.deref.ensures.value, c.in_ok-group.ensures.entries)
          (wider c code small (e ∙ c.cube_position.ensures.value)).nearest) search.cubes;
    }
