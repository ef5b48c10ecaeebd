use Rattle.std.proofs.Common.{arith}
use Rattle.sixel_palette.proofs.refinement.CutBoxes.{boxes_cut}
use Rattle.sixel_palette.proofs.palette.gain_cut.cut_in_two.Goals as goal

pub returns-clause-boxes : goal.returns-clause-boxes
returns-clause-boxes c = λ pixels model h.
    let divided = c.divide-middle.ensures in
    let first = c.box_of.ensures in
    let rest = c.box_of-rest.ensures in
    rw c.in_ok-push.ensures.items
    (boxes_cut _ _ _ _ _ _ _ _ _ h c.requires.position c.index-whole.ensures (record {
      size = omega (arith, c.divide-middle.auto.bins);
      start = first.start;
      middle = omega (arith, first.end, rest.start);
      end = rest.end;
      from = omega (arith, first.end, divided.from);
      to = omega (arith, first.end, divided.to);
      front = divided.front;
      back = divided.back;
      lower = rw first.end divided.lower;
      upper = rw first.end divided.upper;
      first_cut = λ p b are. first.cut p b (rw first.end at are);
      second_cut = λ p b are. rest.cut p b (rw first.end at are);
    }))
