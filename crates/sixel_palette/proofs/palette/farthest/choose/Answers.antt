use Rattle.std.proofs.Common.{◌≡◌, ◌<◌, [], ◌∷◌, ◌++◌, length, get_or, refl, arith}
use Rattle.std.proofs.lemmas.List.{length_push}
use Rattle.sixel_palette.proofs.traversal.Farthest.{farthest_of_none, farthest_from_position}
use Rattle.sixel_palette.{proofs.traversal.Order.order_more, specs.inside.Codes.color_of}
use Rattle.sixel_palette.proofs.palette.farthest.choose.Goals as goal

pub loop-index-init : goal.loop-index-init
loop-index-init c =
    rw c.in_ok-colors.ensures.items (record {
      order = λ i d l. absurd (omega arith);
      size = refl;
      whole = c.in_ok-traversal.ensures.whole;
      relaxed = c.in_ok-traversal.ensures.relaxed;
      within = λ l. l;
      farthest = λ l. farthest_of_none c.args.codes.now c.requires.ascending l;
    })

pub loop-index-preserved : goal.loop-index-preserved
loop-index-preserved c =
    let codes = c.args.codes.now in
    let color = color_of (get_or codes c.loop-index.farthest 0) in
    let h = c.loop-index.invariant in
    let some : 0 < length codes = omega arith in
    let pushed : c.push.new.self.items ≡ c.loop-index.colors.items ++ color ∷ [] =
    rw (← c.color_of-color.ensures) c.in_ok-push.ensures.items in
    let relaxed =
    rw c.color_of-color.ensures at
    (c.relax-farthest.ensures.relaxed c.loop-index.colors.items h.size h.relaxed) in
    let whole = c.relax-farthest.ensures.whole in
    let first = c.relax-farthest.ensures.farthest in
    rw pushed (record {
      order = order_more _ _ _ h.order (h.farthest some);
      size = omega (arith, length_push c.loop-index.colors.items color);
      whole = whole;
      relaxed = relaxed;
      within = λ _. omega (arith, whole.squares, first.within);
      farthest = λ _.
          farthest_from_position _ _ _ _ _ c.requires.ascending whole.squares relaxed first;
    })
