use Rattle.std.proofs.Common.{◌≡◌, ℕ, ◌<◌, ◌≤◌, ◌+◌, ◌*◌, ◌^◌, List, length, ◌∙◌, ap, arith}
use Rattle.std.proofs.lemmas.{Bool.Decides.nat_tests, Grind.pow_more, List.with_items_is}
use Rattle.sixel_encoder.specs.declared.{band.BandRows.BandRows, text.IndexedImage.IndexedImage}
use Rattle.sixel_encoder.specs.Text.{mask}
use Rattle.sixel_encoder.specs.inside.{Grid.{cell, pixel_bit}, Indexed.{entry_of, IsIndexed}}
use Rattle.sixel_encoder.proofs.band_rows.{Cells.AreMarks-same, Masks.{hits, mask-below, mask-line}}
use Rattle.sixel_encoder.proofs.band_rows.Masks.{mask-none, weight-le}
use Rattle.sixel_encoder.proofs.MaskBits.{mask-lt}
use Rattle.sixel_encoder.proofs.band.BandRows.fill.Goals as goal
use goal.{then-row-image+then-is_whole, then-row-image+else-is_whole, else-row-image}

-- a line ends within the image
line-within : (row width height : ℕ) → row < height → row * width + width ≤ width * height
line-within row width height l = grind (arith, nat_tests)

pub loop-bit-init : goal.loop-bit-init
loop-bit-init c = grind (arith, mask-none, c.requires.empty.clear.blank, c.requires.empty.clear)

pub add_whole_line-requires-clause-line : goal.add_whole_line-requires-clause-line
add_whole_line-requires-clause-line c = grind (arith, nat_tests, line-within, c.if-row-image.true)

pub add_part_of_line-requires-clause-line : goal.add_part_of_line-requires-clause-line
add_part_of_line-requires-clause-line c = grind (arith, nat_tests, line-within, c.if-row-image.true)

pub add_whole_line-requires-clause-fits : goal.add_whole_line-requires-clause-fits
add_whole_line-requires-clause-fits c = grind (arith, nat_tests, weight-le, mask-lt, hits)

pub add_part_of_line-requires-clause-fits : goal.add_part_of_line-requires-clause-fits
add_part_of_line-requires-clause-fits c = grind (arith, nat_tests, weight-le, mask-lt, hits)

-- a line more of the sixels of an entry in a column, where its pixels are added to what was there
line-added : (image : IndexedImage) (band bit weight first entry e x : ℕ) (was before now : List ℕ)
    → IsIndexed image → x < image.width → 6 * band + bit < image.height
    → cell was image.width e x ≡ mask (hits image band (first + e) x) bit → weight ≡ 2 ^ bit
    → before ≡ was → entry ≡ first + e
    → cell now image.width e x ≡ cell before image.width e x + pixel_bit weight entry
    (entry_of image.pixels.now image.indices.now ((6 * band + bit) * image.width + x))
    → cell now image.width e x ≡ mask (hits image band (first + e) x) (bit + 1)
line-added image band bit weight first entry e x was before now is lx inside had weighs same own
    added = grind (arith, nat_tests, mask-line)

pub overflow_mul-weight : goal.overflow_mul-weight
overflow_mul-weight c = omega (arith, weight-le c.loop-bit.bit c.loop-bit-test.true)

pub loop-bit-preserved : goal.loop-bit-preserved
loop-bit-preserved c =
    let image = c.args.image.now in
    let width = image.width in
    let band = c.args.band in
    let bit = c.loop-bit.bit in
    let first = c.args.self.now.first in
    let old = c.loop-bit.self in
    let is = c.loop-bit.invariant in
    let after = c.if-row-image.self in
    elim c.if-row-image.branch [
      | then-row-image+then-is_whole w ↦
          let new = w.add_whole_line.new in
          let rows_long = w.add_whole_line.auto.rows ∙ ap length w.deref_mut.ensures.value in
          let used_long = w.add_whole_line.auto.used
          ∙ ap length w.deref_mut-then-is_whole.ensures.value in
          let rows : after.rows.items ≡ new.rows =
          grind (arith, nat_tests, with_items_is, w.self-is) in
          let used : after.used.items ≡ new.used =
          grind (arith, nat_tests, with_items_is, w.self-is) in
          let zero : first ≡ 0 = grind (arith, nat_tests) in
          record {
            weight = omega (arith, pow_more 2 bit);
            shape = grind (arith, nat_tests, w.self-is, ap length rows, ap length used);
            cells = λ e x le lx.
                let count : e < length new.used = omega (arith, le, ap length used) in
                let added =
                w.add_whole_line.ensures.cells e x
                (omega (arith, count, w.add_whole_line.auto.used)) lx in
                line-added _ _ _ _ first e _ _ _ _ _ c.requires.image lx w.if-row-image.true
                (is.cells e x (omega (arith, count, used_long)) lx) is.weight
                w.deref_mut.ensures.value (omega (arith, zero))
                (ap (λ r. cell r width e x) rows ∙ added);
            marks = AreMarks-same rows used w.add_whole_line.ensures.marks;
          }
      | then-row-image+else-is_whole w ↦
          let new = w.add_part_of_line.new in
          let rows_long =
          w.add_part_of_line.auto.rows ∙ ap length w.deref_mut-else-is_whole.ensures.value in
          let used_long = w.add_part_of_line.auto.used
          ∙ ap length w.deref_mut-else-is_whole-2.ensures.value in
          let rows : after.rows.items ≡ new.rows = ap (λ (s : BandRows). s.rows.items) w.self-is
          ∙ with_items_is old.rows new.rows (omega (arith, rows_long, old.rows.ok.0)) in
          let used : after.used.items ≡ new.used = ap (λ (s : BandRows). s.used.items) w.self-is
          ∙ with_items_is old.used new.used (omega (arith, used_long, old.used.ok.0)) in
          record {
            weight = omega (arith, pow_more 2 bit);
            shape = grind (arith, nat_tests, w.self-is, ap length rows, ap length used);
            cells = λ e x le lx.
                let count : e < length new.used = omega (arith, le, ap length used) in
                line-added image band bit c.loop-bit.weight first (old.first + e) e x old.rows.items
                w.deref_mut-else-is_whole.result.now after.rows.items c.requires.image lx
                w.if-row-image.true (is.cells e x (omega (arith, count, used_long)) lx) is.weight
                w.deref_mut-else-is_whole.ensures.value (ap (λ f. f + e) is.shape.from)
                (ap (λ r. cell r width e x) rows
                ∙ w.add_part_of_line.ensures.cells e x
                (omega (arith, count, w.add_part_of_line.auto.used)) lx);
            marks = AreMarks-same rows used w.add_part_of_line.ensures.marks;
          }
      | else-row-image w ↦
          let rows = ap (λ (s : BandRows). s.rows.items) w.self-is in
          let used = ap (λ (s : BandRows). s.used.items) w.self-is in
          record {
            weight = omega (arith, pow_more 2 bit);
            shape = grind (arith, nat_tests, w.self-is, ap length rows, ap length used);
            cells = λ e x le lx.
                mask-below _ _ _ _ _ c.requires.image _ w.if-row-image.false
                (ap (λ r. cell r width e x) rows
                ∙ is.cells e x (omega (arith, le, ap length used)) lx);
            marks = AreMarks-same rows used is.marks;
          }
    ]
