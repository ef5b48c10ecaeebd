use Rattle.std.{proofs.Common.{length, arith, rules}, proofs.lemmas.Bool.Decides.nat_tests}
use Rattle.std.{proofs.lemmas.List.get_or_default, specs.Prelude.slice_index}
use Rattle.sixel_palette.{specs.Palette.{palette_room, IsShown}, specs.inside.Chosen.IsChosen}
use Rattle.sixel_palette.{specs.inside.Codes.color_of, proofs.traversal.Order.members_from_order}
use Rattle.sixel_palette.proofs.traversal.Choices as chosen
use Rattle.sixel_palette.proofs.palette.choose_palette.Goals as goal

pub returns : goal.returns
returns c =
    let codes = c.in_ok-colors.colors.codes.items in
    let selection = c.in_ok-selection.selection in
    let made = rw c.deref.ensures.value at c.in_ok-selection.ensures in
    let witnesses = rw c.deref-3.ensures.value at c.in_ok-witnesses.ensures in
    let error = rw c.deref-4.ensures.value at c.error.ensures in
    let choice : IsChosen c.args.pixels.now (palette_room c.args.max_colors) (record {
      colors = selection.colors;
      indices = c.in_ok-indices.indices;
      error = c.error.result;
      witnesses = c.in_ok-witnesses.witnesses;
    }) =
    record {
      codes = codes;
      far = color_of (slice_index codes selection.farthest);
      are = c.in_ok-colors.ensures.codes;
      order = made.order;
      size = grind (arith, nat_tests, made.size);
      farthest = made.farthest;
      error_none = error.none;
      error_some = error.farthest;
      witnesses_none = witnesses.none;
      witnesses_some = witnesses.some;
    } in
    let order = chosen.chosen_order _ _ _ choice in
    let near = made.nearest in
    record {
      palette = record {
        order = order;
        size = (length codes, chosen.chosen_size _ _ _ choice, choice.size);
      };
      error = chosen.chosen_error _ _ _ choice;
      witnesses = chosen.chosen_witnesses _ _ _ choice;
      witnesses_apart = chosen.chosen_apart _ _ _ choice;
      occur = members_from_order (IsShown c.args.pixels.now) _ order;
      witnesses_occur = chosen.chosen_occur _ _ _ choice;
      bound = chosen.chosen_bound _ _ _ choice;
      complete = chosen.chosen_complete _ _ _ choice;
      empty = chosen.chosen_empty _ _ _ choice;
      bytes = grind (arith, nat_tests, get_or_default, c.type_inv.pixels);
      mismatch = search rules;
      memory = search rules;
      indices =
          c.in_ok-indices.ensures selection.colors.items near.0
          (rw c.deref-2.ensures.value near.1)
          (chosen.chosen_near _ _ _ choice (λ k. omega (arith, c.type_inv.pixels k))
          (grind (arith, nat_tests)));
    }
