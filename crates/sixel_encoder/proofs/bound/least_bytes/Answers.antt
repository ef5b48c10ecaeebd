use Rattle.std.{proofs.Common.{◌<◌, arith, refl, sym}, proofs.lemmas.Bool.Decides.nat_tests}
use Rattle.sixel_encoder.proofs.band_rows.ColumnLanes.{opaque-lane}
use Rattle.sixel_encoder.proofs.band_rows.LaneChanges.{change-left, change-right}
use Rattle.sixel_encoder.proofs.plain_text.Bound.{bound-start, bound-step, bound-whole}
use Rattle.sixel_encoder.{proofs.plain_text.Bound.zero-replicated, specs.inside.Indexed.drawing_of}
use Rattle.sixel_encoder.proofs.bound.least_bytes.Goals as goal
use goal.{else-left-right, else-not-is_repeated, then-left-right}
use goal.{then-not-is_repeated+else-loop-bit-test}

pub loop-column-init : goal.loop-column-init
loop-column-init c = record {
  bound = bound-start (drawing_of c.args.entries.now.image.now) c.args.entries.now.band 1 _
      (λ entry. zero-replicated 256 entry) refl;
  size = refl;
  before = λ entry. omega (arith, zero-replicated 256 entry);
  few = omega arith;
}

pub end-requires-clause-lane : goal.end-requires-clause-lane
end-requires-clause-lane c = grind (arith, nat_tests, opaque-lane, c.requires, c.lane-left.ensures)

pub end-requires-then-left-right-clause-lane : goal.end-requires-then-left-right-clause-lane
end-requires-then-left-right-clause-lane c = grind (arith, nat_tests, opaque-lane)

pub end-requires-then-left-right-clause-order : goal.end-requires-then-left-right-clause-order
end-requires-then-left-right-clause-order c =
    let entries = c.args.entries.now in
    let lc : c.loop-column.column < entries.image.now.width = grind (arith, nat_tests) in
    let lb : c.loop-bit.bit < 6 = omega (arith, c.loop-bit-test.true, c.loop-bit.auto.bit-end) in
    (c.end.ensures.bound (drawing_of entries.image.now) entries.band (λ some.
    change-left _ _ _ _ _ c.requires lc lb c.lane-left.ensures c.lane-right.ensures
    c.if-left-right.true some) c.loop-bit.invariant.bound).order

pub loop-bit-preserved : goal.loop-bit-preserved
loop-bit-preserved c =
    let entries = c.args.entries.now in
    let drawing = drawing_of entries.image.now in
    let lc : c.loop-column.column < entries.image.now.width = grind (arith, nat_tests) in
    let lb : c.loop-bit.bit < 6 = omega (arith, c.loop-bit-test.true, c.loop-bit.auto.bit-end) in
    elim c.if-left-right.branch [
      | then-left-right w ↦
          let apart = w.if-left-right.true in
          let once =
          w.end.ensures.bound drawing entries.band (λ some.
          change-left _ _ _ _ _ c.requires lc lb c.lane-left.ensures c.lane-right.ensures apart
          some) c.loop-bit.invariant.bound in
          let twice =
          w.end-then-left-right.ensures.bound drawing entries.band (λ some.
          change-right _ _ _ _ _ c.requires lc lb c.lane-right.ensures c.lane-left.ensures
          (λ e. apart (sym e)) some) once in
          grind (arith, nat_tests, w.runs-is, w.end.ensures.few, w.end-then-left-right.ensures.few)
      | else-left-right w ↦ grind (arith, nat_tests)
    ]

pub loop-column-preserved : goal.loop-column-preserved
loop-column-preserved c =
    let entries = c.args.entries.now in
    let some : 0 < c.loop-column.column = omega (arith, c.loop-column.auto.column) in
    let lc : c.loop-column.column < entries.image.now.width = grind (arith, nat_tests) in
    let step = bound-step (drawing_of entries.image.now) entries.band c.loop-column.column in
    grind (arith, nat_tests, then-not-is_repeated+else-loop-bit-test, else-not-is_repeated)

pub returns : goal.returns
returns c =
    let entries = c.args.entries.now in
    bound-whole (drawing_of entries.image.now) entries.band c.loop-column.column
    c.loop-column.runs c.requires.indexed.colors
    (λ entry some. grind (arith, nat_tests, c.loop-column.invariant.before))
    c.loop-column.invariant.bound
