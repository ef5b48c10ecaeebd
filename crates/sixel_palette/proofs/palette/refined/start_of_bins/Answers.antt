use Rattle.std.proofs.Common.{◌≡◌, ◌<◌, ◌≤◌, length, ap, sym, ◌∙◌, arith, refl}
use Rattle.std.proofs.lemmas.List.Sorted.{All-permutation}
use Rattle.sixel_palette.specs.{GainCut.is_final, Refined.{cut_boxes, cut_entries}}
use Rattle.sixel_palette.specs.inside.Sums.{IsWholeBin, counted_pixels}
use Rattle.sixel_palette.proofs.palette.refined.start_of_bins.Goals as goal

pub improve-requires-clause-whole : goal.improve-requires-clause-whole
improve-requires-clause-whole c =
    All-permutation (IsWholeBin (counted_pixels c.args.codes.now c.args.counts.now))
    c.args.bins.now c.boxes_of.new.bins c.in_ok-boxes.ensures.moved c.requires.whole

pub improve-requires-clause-shown : goal.improve-requires-clause-shown
improve-requires-clause-shown c =
    rw c.deref-else-is_final.ensures.value c.in_ok-initial.ensures.shown

pub returns : goal.returns
returns c =
    let pixels = counted_pixels c.args.codes.now c.args.counts.now in
    let room = c.args.room in
    let model = cut_boxes pixels room in
    let made = c.in_ok-initial.ensures in
    let boxes = c.in_ok-boxes.ensures.boxes pixels c.requires.bins in
    let means : c.in_ok-initial.initial.items ≡ cut_entries pixels room =
    made.means pixels model (rw c.deref.ensures.value boxes) in
    let test : c.is_final.result ≡ is_final pixels model =
    c.is_final.ensures pixels c.boxes_of.new.bins model (rw c.deref-2.ensures.value boxes) in
    let few : length c.in_ok-initial.initial.items ≤ room =
    omega (arith, made.size, c.deref.ensures.len, c.in_ok-boxes.ensures.room) in
    let some : 0 < length c.in_ok-initial.initial.items =
    omega (arith, made.size, c.deref.ensures.len, c.in_ok-boxes.ensures.some) in
    elim c.if-is_final.branch [
      | goal.then-is_final+in_ok-assignment w ↦
          let same = rw w.deref-then-is_final.ensures.value at w.in_ok-assignment.ensures.colors in
          rw w.assignment-is (record {
            initial_shown = made.shown;
            initial_few = few;
            initial_some = λ _. some;
            assignment = w.in_ok-assignment.ensures.assignment;
            shown = rw same made.shown;
            size = ap length same;
            falls = rw same (omega arith);
            whole = λ l. absurd (omega (arith, l, c.requires.many));
            cut = λ _. (means, rw (same, means, sym test ∙ w.if-is_final.true) refl);
          })
      | goal.else-is_final+in_ok-assignment-2 w ↦
          let moved = rw w.deref-else-is_final.ensures.value at w.in_ok-assignment-2.ensures in
          rw w.assignment-is (record {
            initial_shown = made.shown;
            initial_few = few;
            initial_some = λ _. some;
            assignment = moved.assignment;
            shown = moved.shown;
            size = moved.size;
            falls = moved.falls;
            whole = λ l. absurd (omega (arith, l, c.requires.many));
            cut = λ _. (means, rw (sym test ∙ w.if-is_final.false, ← means) moved.improved);
          })
    ]
