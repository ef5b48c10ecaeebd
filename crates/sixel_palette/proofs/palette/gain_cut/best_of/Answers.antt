use Rattle.std.proofs.Common.{◌≡◌, ℕ, ◌<◌, get_or, length, refl, ap, arith}
use Rattle.std.proofs.lemmas.List.{get_or_default}
use Rattle.sixel_palette.specs.declared.palette.gain_cut.Channel.TheVariants.{Red}
use Rattle.sixel_palette.specs.{declared.palette.gain_cut.ColorBox.ColorBox, GainCut.first_greatest}
use Rattle.sixel_palette.proofs.refinement.BestBox.{first_greatest-next}
use Rattle.sixel_palette.proofs.palette.gain_cut.best_of.Goals as goal

pub loop-position-init : goal.loop-position-init
unfolding first_greatest
loop-position-init c = record { within = omega (arith, c.requires); first = λ d. refl }

pub loop-position-preserved : goal.loop-position-preserved
loop-position-preserved c =
    let boxes = c.args.boxes.now in
    let best = c.loop-position.best in
    let position = c.loop-position.position in
    let h = c.loop-position.invariant in
    let none : ColorBox = record {
      start = 0;
      end = 0;
      cut = record { channel = Red; value = 0; gain = 0 };
    } in
    let same = λ (k : ℕ) (d : ColorBox) (l : k < length boxes).
    ap (λ (b : ColorBox). b.cut.gain) (get_or_default boxes k d none l) in
    let here : position < length boxes = c.loop-position-test.true in
    let next = λ (d : ColorBox) (new : ℕ).
    first_greatest-next (λ k. (get_or boxes k d).cut.gain) position best new (omega arith)
    (h.first d) in
    elim c.if-boxes-best.branch [
      | goal.then-boxes-best w ↦
          let more = w.if-boxes-best.true in
          rw w.best-is (record {
            within = here;
            first = λ d. grind (arith, next d position, same best d, same position d);
          })
      | goal.else-boxes-best w ↦
          let less = w.if-boxes-best.false in
          rw w.best-is (record {
            within = h.within;
            first = λ d. grind (arith, next d best, same best d, same position d);
          })
    ]

pub returns-clause-first : goal.returns-clause-first
returns-clause-first c = λ d.
    let all : c.loop-position.position ≡ length c.args.boxes.now = omega arith in
    rw all at (c.loop-position.invariant.first d)
