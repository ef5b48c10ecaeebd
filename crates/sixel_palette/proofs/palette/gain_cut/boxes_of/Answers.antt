use Rattle.std.proofs.Common.{◌≡◌, ℕ, ◌+◌, ◌-◌, ◌<◌, [], ◌∷◌, ◌++◌, true, false, List, length, ap}
use Rattle.std.proofs.{Common.{refl, ◌∙◌, arith}, lemmas.Bool.Decides.nat_tests}
use Rattle.std.proofs.lemmas.List.Sorted.{IsPermutation-refl, IsPermutation-trans}
use Rattle.sixel_palette.specs.{ColorSums.Pixels, GainCut.{Box, best_box, boxes_after, gain_at}}
use Rattle.sixel_palette.specs.{GainCut.is_final, declared.palette.gain_cut.ColorBox.ColorBox}
use Rattle.sixel_palette.proofs.refinement.BestBox.{best_gain, best_of_boxes, boxes_final}
use Rattle.sixel_palette.proofs.refinement.BestBox.{boxes_more, boxes_start}
use Rattle.sixel_palette.proofs.palette.gain_cut.boxes_of.Goals as goal

-- a best cut that does not gain is final
same_gain : (pixels : Pixels) (model : List Box) (gain : ℕ)
    → gain_at pixels model (best_box pixels model) ≡ gain → gain ≡ 0
    → is_final pixels model ≡ true
same_gain pixels model gain gained none = grind (arith, nat_tests, gained, none)

pub loop-count-init : goal.loop-count-init
loop-count-init c =
    let box = c.box_of.result in
    let made = c.box_of.ensures in
    let one : c.push.new.self.items ≡ box ∷ [] =
    c.in_ok-push.ensures.items
    ∙ ap (λ (xs : List ColorBox). xs ++ box ∷ []) c.in_ok-boxes.ensures.items in
    rw one (record {
      boxes = refl;
      ranges = λ k d l. grind (arith, nat_tests, made.start, made.end);
      lower = omega (arith, c.box_of.auto.lower);
      upper = omega (arith, c.box_of.auto.upper);
      moved = IsPermutation-refl c.args.bins.now;
      model = λ pixels are. boxes_start _ _ _ made.start made.end (made.cut pixels (λ _. true)) are;
    })

pub loop-count-preserved : goal.loop-count-preserved
loop-count-preserved c =
    let n = c.loop-count._count - 1 in
    let h = c.loop-count.invariant in
    let item = c.index.result.now in
    let cut = c.in_ok-cut_in_two.ensures in
    let some : 0 < length c.loop-count.boxes.items = omega (arith, h.boxes) in
    let next : c.loop-count._count + 1 - 1 ≡ n + 1 = omega arith in
    let first = rw c.deref.ensures.value at (c.best_of-best.ensures.first item) in
    record {
      boxes = omega (arith, cut.one_more, h.boxes);
      ranges = rw c.cut_in_two.auto.bins cut.ranges;
      lower = omega (arith, c.cut_in_two.auto.lower, h.lower);
      upper = omega (arith, c.cut_in_two.auto.upper, h.upper);
      moved = IsPermutation-trans _ _ _ h.moved cut.moved;
      model = λ pixels are.
          let model = boxes_after pixels n in
          let old = h.model pixels are in
          let gained : gain_at pixels model (best_box pixels model) ≡ item.cut.gain =
          best_gain _ _ _ _ _ _ old some first
          (omega (arith, c.best_of-best.ensures.within, c.deref.ensures.len)) c.index.ensures in
          let more : is_final pixels model ≡ false =
          grind (arith, nat_tests, gained, c.if-index-eq0.false) in
          let place = first ∙ best_of_boxes _ _ _ _ _ old some in
          rw (next, boxes_more pixels n more, ← place) (cut.boxes pixels model old);
    }

pub returns-clause-boxes : goal.returns-clause-boxes
returns-clause-boxes c = λ pixels are.
    let n = c.loop-count._count - 1 in
    let h = c.loop-count.invariant in
    let old = h.model pixels are in
    elim c.loop-count-test.branch [
      | goal.else-loop-count-test w ↦
          let all : c.loop-count._count ≡ c.args.room = omega arith in
          rw (← all) old
      | goal.then-loop-count-test+then-index-eq0 w ↦
          let model = boxes_after pixels n in
          let item = w.index.result.now in
          let first = rw w.deref.ensures.value at (w.best_of-best.ensures.first item) in
          let gained : gain_at pixels model (best_box pixels model) ≡ item.cut.gain =
          best_gain _ _ _ _ _ _ old (omega (arith, h.boxes)) first
          (omega (arith, w.best_of-best.ensures.within, w.deref.ensures.len)) w.index.ensures in
          let final : is_final pixels model ≡ true =
          same_gain pixels model _ gained w.if-index-eq0.true in
          rw (boxes_final pixels n (c.args.room - 1) (omega arith) final) old
    ]
