use Rattle.std.proofs.Common.{◌≡◌, ℕ, ◌<◌, length, false, arith}
use Rattle.std.proofs.lemmas.{Bool.Decides.nat_tests, List.get_or_default}
use Rattle.sixel_encoder.specs.declared.segments.Segment.{Segment}
use Rattle.sixel_encoder.specs.inside.Compact.{nth}
use Rattle.sixel_encoder.proofs.compact_form.RunSegments.{AreLast-longer, AreLast-run, run-near}
use Rattle.sixel_encoder.proofs.compact_form.{RunSegments.run-new, SegmentSteps.some-same}
use Rattle.sixel_encoder.proofs.compact_form.SegmentSteps.{is_near, last-far, near-own, none-near}
use Rattle.sixel_encoder.proofs.segments.push_run.Goals.{in-Some+else-run-near, in-None}
use Rattle.sixel_encoder.proofs.segments.push_run.Goals as goal

-- no segment
abbrev none_there : Segment
none_there = record { entry = 0; first = 0; end = 0 }

pub index-near-requires : goal.index-near-requires
index-near-requires c =
    let known = c.requires.last.known c.args.run.entry c.in-Some.index c.in-Some.is in
    omega (arith, known.0, c.args.segments.now.ok.0)

pub overflow_add-near : goal.overflow_add-near
overflow_add-near c = grind (arith, nat_tests, get_or_default, none_there)

pub returns-then-run-near-clause-segments : goal.returns-then-run-near-clause-segments
returns-then-run-near-clause-segments c =
    grind (arith, nat_tests, get_or_default, none_there, run-near, some-same, near-own)

pub returns-then-run-near-clause-last : goal.returns-then-run-near-clause-last
returns-then-run-near-clause-last c = grind (arith, nat_tests, AreLast-longer, get_or_default)

pub returns-clause-segments : goal.returns-clause-segments
returns-clause-segments c = grind (arith, nat_tests, get_or_default, run-new)

pub returns-clause-last : goal.returns-clause-last
returns-clause-last c =
    let items = c.args.segments.now.items in
    let far : (j : ℕ) → j < length items
    → is_near c.args.gap c.args.run.first c.args.run.entry (nth items j) ≡ false =
    elim c.match-last-run.branch [
      | in-Some+else-run-near w ↦ grind (arith, nat_tests, get_or_default, none_there, last-far)
      | in-None w ↦ grind (arith, nat_tests, none-near)
    ] in
    grind (arith, nat_tests, items, AreLast-run)
