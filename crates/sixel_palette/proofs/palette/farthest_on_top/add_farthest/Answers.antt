use Rattle.std.proofs.Common.{◌≡◌, ◌<◌, ◌++◌, [], append-nil, append_assoc, get_or, length, map}
use Rattle.std.proofs.{Common.{arith, inl, inr, sym}, lemmas.Bool.Decides.nat_tests}
use Rattle.std.proofs.lemmas.{List.{get_or_read, length_push, map_push}, List.Elements.All-push}
use Rattle.sixel_palette.specs.Refined.{IsFarOff, IsRegisterColor, register_color}
use Rattle.sixel_palette.specs.inside.Codes.{IsListed, color_of}
use Rattle.sixel_palette.proofs.traversal.Farthest.{farthest_from_position}
use Rattle.sixel_palette.proofs.refinement.{Refined.register_color-shown, Tops.far_off_more}
use Rattle.sixel_palette.proofs.palette.farthest_on_top.add_farthest.Goals as goal

pub returns-then-is_empty-clause-top : goal.returns-then-is_empty-clause-top
returns-then-is_empty-clause-top c =
    let none : length c.args.codes.now ≡ 0 = grind (arith, nat_tests) in
    record {
      tops = [];
      whole = sym (append-nil c.args.assignment.colors.items);
      order = λ i d l. absurd (omega (arith, l));
      full = inr (λ d m. absurd (omega (arith, m.1)));
      none = λ e. c.new-witnesses.ensures.items;
      some = λ l. absurd (omega (arith, l));
    }

pub loop-index-init : goal.loop-index-init
loop-index-init c =
    let whole = c.requires.assignment.whole in
    let first = rw c.deref.ensures.value at c.farthest_of-farthest.ensures in
    let within : c.farthest_of-farthest.result < length c.args.codes.now =
    omega (arith, first.within, whole.squares) in
    rw c.new-witnesses.ensures.items (record {
      whole = whole;
      relaxed = c.requires.assignment.relaxed;
      size = omega (arith, c.len-index.ensures, c.args.assignment.colors.ok.0);
      shown = c.requires.shown;
      tops = sym (append-nil c.args.assignment.colors.items);
      order = λ i d l. absurd (omega arith);
      within = within;
      farthest =
          farthest_from_position c.args.assignment.colors.items _ _ _ _ c.requires.ascending
          whole.squares c.requires.assignment.relaxed first;
      square = (c.requires.assignment.relaxed c.farthest_of-farthest.result within).gap;
    })

pub loop-index-preserved : goal.loop-index-preserved
loop-index-preserved c =
    let base = c.args.assignment.colors.items in
    let colors = c.loop-index.colors.items in
    let witnesses = c.loop-index.witnesses.items in
    let color = c.color_of-color.result in
    let entry = c.register_color.result in
    let h = c.loop-index.invariant in
    let whole = c.relax-farthest.ensures.whole in
    let relaxed = c.relax-farthest.ensures.relaxed colors h.size h.relaxed in
    let first = c.relax-farthest.ensures.farthest in
    let read =
    get_or_read c.loop-index.traversal.squares.items c.loop-index.farthest _
    (omega (arith, h.within, h.whole.squares)) c.index.ensures 0 in
    let within : c.relax-farthest.result < length c.args.codes.now =
    omega (arith, first.within, whole.squares) in
    let far : IsFarOff (IsListed c.args.codes.now) (base ++ map register_color witnesses) color =
    rw (← h.tops, c.color_of-color.ensures) (record {
      farthest = h.farthest;
      far = omega (arith, h.square, read, c.if-index-le-NEAR_ENOUGH.false);
    }) in
    rw (c.in_ok-push.ensures.items, c.in_ok-push-2.ensures.items) (record {
      whole = whole;
      relaxed = relaxed;
      size = omega (arith, length_push colors entry, h.size);
      shown =
          All-push IsRegisterColor colors entry h.shown
          (rw c.register_color.ensures (register_color-shown color));
      tops =
          rw (h.tops, c.register_color.ensures, map_push register_color witnesses color)
          (append_assoc base (map register_color witnesses) _);
      order = far_off_more _ base witnesses color h.order far;
      within = within;
      farthest = farthest_from_position _ _ _ _ _ c.requires.ascending whole.squares relaxed first;
      square = (relaxed c.relax-farthest.result within).gap;
    })

pub returns-clause-top : goal.returns-clause-top
returns-clause-top c =
    let codes = c.args.codes.now in
    let h = c.loop-index.invariant in
    record {
      tops = c.loop-index.witnesses.items;
      whole = h.tops;
      order = h.order;
      full =
          elim c.loop-index-test.branch [
            | goal.else-loop-index-test w ↦ inl
                (omega (arith, h.size, w.loop-index-test.false, c.loop-index.auto.index-end))
            | goal.then-loop-index-test+then-index-le-NEAR_ENOUGH w ↦
                let read =
                get_or_read c.loop-index.traversal.squares.items c.loop-index.farthest _
                (omega (arith, h.within, h.whole.squares)) w.index.ensures 0 in
                let near = w.if-index-le-NEAR_ENOUGH.true in
                inr (λ d m. omega (arith, h.farthest.farthest d m, h.square, read, near))
          ];
      none = c.in_ok-with_farthest.ensures.none;
      some = λ some. (
        color_of (get_or codes c.loop-index.farthest 0),
        h.farthest,
        rw (← c.color_of.ensures) (c.in_ok-with_farthest.ensures.some some),
      );
    }
