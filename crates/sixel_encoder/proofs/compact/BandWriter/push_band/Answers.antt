use Rattle.std.{proofs.Common.{◌≤◌, length, ◌∙◌, arith}, proofs.lemmas.Bool.Decides.nat_tests}
use Rattle.std.proofs.lemmas.List.FromFn.{length-map-range_with_len}
use Rattle.sixel_encoder.proofs.compact_form.Steps.{text-more, IsSegment-image, band-selected}
use Rattle.sixel_encoder.proofs.compact_form.Steps.{band-text, drawn-end, drawn-made, drawn-more}
use Rattle.sixel_encoder.{proofs.compact_form.Steps.text-end, specs.inside.Indexed.drawing_of}
use Rattle.sixel_encoder.proofs.compact.BandWriter.push_band.Goals as goal

pub loop-segment-init : goal.loop-segment-init
loop-segment-init c = grind (arith, length-map-range_with_len)

pub push_segment-requires-clause-within : goal.push_segment-requires-clause-within
push_segment-requires-clause-within c = grind (arith, nat_tests, IsSegment-image)

pub loop-segment-preserved : goal.loop-segment-preserved
loop-segment-preserved c =
    let is = c.loop-segment.invariant in
    let told = c.in_ok-push_segment.ensures in
    let items = c.deref-segment-items.result.now in
    let drawing = drawing_of c.loop-segment.self.entries.image.now in
    let text = rw is.band at told.text in
    let drawn = rw is.band at told.drawn in
    rw c.push_segment.ensures.entries record {
      writer = rw c.push_segment.ensures.entries at told.writer;
      entries = is.entries;
      image = is.image;
      band = is.band;
      text = text-more drawing _ _ _ _ items _ _ _ c.loop-segment-test.true drawn text is.text;
      drawn = drawn-more drawing _ _ _ _ _ items c.loop-segment-test.true drawn is.drawn;
    }

pub returns-clause-register : goal.returns-clause-register
returns-clause-register c =
    let drawing = drawing_of c.args.self.now.entries.image.now in
    let items = c.deref-segment-items.result.now in
    let begun = rw (c.read.ensures.image, c.read.ensures.band) at c.in_ok-band_segments.ensures in
    let drawn = rw (c.deref.ensures.value, begun) at c.in_ok-segments.ensures in
    let all : length items ≤ c.loop-segment.segment-index = grind (arith, nat_tests) in
    band-selected drawing c.args.band c.args.self.now.pen.register _ _ items (drawn-made _ _
    c.begin_band.ensures.column c.begin_band.ensures.register
    (rw (c.read.ensures.image, c.read.ensures.band) at c.begin.ensures))
    (c.deref-segment-items.ensures.value ∙ drawn) (drawn-end drawing c.args.band
    c.loop-segment.segment-index _ _ items all
    (rw c.loop-segment.invariant.image at c.loop-segment.invariant.drawn))

pub returns-clause-text : goal.returns-clause-text
returns-clause-text c =
    let drawing = drawing_of c.args.self.now.entries.image.now in
    let items = c.deref-segment-items.result.now in
    let begun = rw (c.read.ensures.image, c.read.ensures.band) at c.in_ok-band_segments.ensures in
    let drawn = rw (c.deref.ensures.value, begun) at c.in_ok-segments.ensures in
    let all : length items ≤ c.loop-segment.segment-index = grind (arith, nat_tests) in
    band-text drawing c.args.band c.args.self.now.pen.register _ items _ _ _ (drawn-made _ _
    c.begin_band.ensures.column c.begin_band.ensures.register
    (rw (c.read.ensures.image, c.read.ensures.band) at c.begin.ensures))
    (c.deref-segment-items.ensures.value ∙ drawn) c.in_ok-begin_band.ensures.text (text-end drawing
    c.args.band c.loop-segment.segment-index _ items _ _ all
    (rw c.loop-segment.invariant.image at c.loop-segment.invariant.text))
