use Rattle.std.proofs.Common.{◌≡◌, ◌+◌, ◌<◌, ◌≤◌, length, ap, refl, ◌∙◌, arith}
use Rattle.std.proofs.lemmas.{Bool.Decides.nat_tests, Result.IfOk-from_err}
use Rattle.sixel_encoder.proofs.compact_form.PassSteps.{none-replicated, segment-pixel}
use Rattle.sixel_encoder.proofs.compact_form.PassSteps.{segment-skip, segments_up_to-none}
use Rattle.sixel_encoder.proofs.compact_form.{PassSteps.with_pixel-twice, RunSegments.run-pixel}
use Rattle.sixel_encoder.proofs.compact_form.RunSegments.{columns-blank, columns-whole, run-made}
use Rattle.sixel_encoder.proofs.compact_form.SegmentSteps.{AreLast-later, AreLast-none}
use Rattle.sixel_encoder.specs.{Segments.{gap_of, with_pixel}, Text.Drawing}
use Rattle.sixel_encoder.specs.inside.Indexed.{drawing_of}
use Rattle.sixel_encoder.proofs.band_rows.ColumnLanes.{opaque-lane, transparent-lane}
use Rattle.sixel_encoder.proofs.segments.band_segments.Goals as goal
use goal.{then-lane-above+then-lane-ne-TRANSPARENT-2+in_ok-push_run-2, else-lane-above}

gap-small : (drawing : Drawing) → gap_of drawing ≤ drawing.width + 10
gap-small drawing = grind (arith, nat_tests)

pub columns-init : goal.columns-init
columns-init c = record {
  segments = grind (arith, nat_tests, segments_up_to-none, c.new-segments.ensures.items);
  last = rw c.new-segments.ensures.items
      (AreLast-none _ c.gap_of-gap.result 0 (λ e. none-replicated 256 e));
  size = refl;
  within = omega arith;
}

pub push_run-requires-clause-entry : goal.push_run-requires-clause-entry
push_run-requires-clause-entry c =
    grind (arith, nat_tests, opaque-lane c.args.entries.now c.columns.column 0 c.lane-lane.result)

pub columns-preserved-in-Continue-1 : goal.columns-preserved-in-Continue-1
columns-preserved-in-Continue-1 c =
    let lane = c.lane-lane.result in
    let is = c.columns.invariant in
    let told = c.end_of_repeats-column.ensures in
    let run = c.run_of-run.ensures in
    let at =
    opaque-lane _ _ 0 lane c.requires c.columns-test.true c.lane-lane.ensures
    c.if-lane-ne-TRANSPARENT.true in
    let made = run-made c.run_of-run.result lane _ _ run.entry run.first run.end in
    record {
      segments = columns-whole _ _ _ _ _ told.order is.segments
          (c.is_uniform.ensures c.if-is_uniform.true) told.same _ lane _ c.columns-test.true
          c.gap_of-gap.ensures at.0 (grind (arith, nat_tests, c.in_ok-push_run.ensures.segments));
      last = grind (arith, nat_tests, c.run_of-run.ensures.end, c.in_ok-push_run.ensures.last);
      size = c.push_run.ensures.size ∙ is.size;
      within = told.within;
    }

pub columns-preserved-else-lane-ne-TRANSPARENT : goal.columns-preserved-else-lane-ne-TRANSPARENT
columns-preserved-else-lane-ne-TRANSPARENT c =
    grind (arith, transparent-lane, columns-blank, c.columns.invariant)

pub push_run-requires-then-lane-ne-TRANSPARENT-2-clause-entry :
    goal.push_run-requires-then-lane-ne-TRANSPARENT-2-clause-entry
push_run-requires-then-lane-ne-TRANSPARENT-2-clause-entry c =
    let lane =
    opaque-lane _ _ _ _ c.requires c.columns-test.true c.lane-lane-in-loop-bit.ensures
    c.if-lane-ne-TRANSPARENT-2.true in
    omega (
      arith,
      c.run_of-run-then-lane-ne-TRANSPARENT-2.ensures.entry,
      lane.1,
      c.loop-bit.invariant.size,
    )

pub loop-bit-preserved : goal.loop-bit-preserved
loop-bit-preserved c =
    let entries = c.args.entries.now in
    let column = c.columns.column in
    let lane = c.lane-lane-in-loop-bit.result in
    let gap = c.gap_of-gap.result in
    let was = c.loop-bit.segments.items in
    let is = c.loop-bit.invariant in
    let lc : column < entries.image.now.width = c.columns-test.true in
    let lb : c.loop-bit.bit < 6 = omega (arith, c.loop-bit-test.true, c.loop-bit.auto.bit-end) in
    elim c.if-lane-above.branch [
      | then-lane-above+then-lane-ne-TRANSPARENT-2+in_ok-push_run-2 w ↦
          let run = w.run_of-run-then-lane-ne-TRANSPARENT-2 in
          let push = w.push_run-then-lane-ne-TRANSPARENT-2 in
          let new = push.new in
          let at =
          opaque-lane entries column c.loop-bit.bit lane c.requires lc
          c.lane-lane-in-loop-bit.ensures w.if-lane-ne-TRANSPARENT-2.true in
          let made =
          run-made run.result lane column (column + 1) run.ensures.entry run.ensures.first
          run.ensures.end in
          let items : c.if-lane-above.segments.items ≡ new.segments.items =
          grind (arith, nat_tests) in
          let pushed : new.segments.items ≡ with_pixel gap column lane was =
          grind (arith, nat_tests, run-pixel, w.in_ok-push_run-2.ensures.segments) in
          record {
            segments =
                items
                ∙ segment-pixel _ _ _ _ _ lb is.segments _ _ _ c.gap_of-gap.ensures at.0 pushed;
            last = rw (items, w.last-is) (grind (arith, nat_tests, AreLast-later));
            size = ap length w.last-is ∙ (push.ensures.size ∙ is.size);
            above = λ l. rw (items, pushed) (with_pixel-twice gap column lane was);
          }
      | else-lane-above w ↦
          grind (arith, segment-skip, transparent-lane, opaque-lane, segment-pixel)
    ]

pub returns : goal.returns
returns c = grind (arith, nat_tests, c.columns.invariant.segments)

pub push_run-requires-clause-last : goal.push_run-requires-clause-last
push_run-requires-clause-last c = rw c.run_of-run.ensures.first c.columns.invariant.last

pub columns-preserved : goal.columns-preserved
columns-preserved c = grind (arith, nat_tests)

pub push_run-requires-clause-small : goal.push_run-requires-clause-small
push_run-requires-clause-small c =
    omega (arith, gap-small (drawing_of c.args.entries.now.image.now))

pub returns-in_err-push_run : goal.returns-in_err-push_run
returns-in_err-push_run c = IfOk-from_err _ _ c.from_residual.ensures.0

pub returns-in_err-push_run-2 : goal.returns-in_err-push_run-2
returns-in_err-push_run-2 c = IfOk-from_err _ _ c.from_residual-in_err-push_run-2.ensures.0
