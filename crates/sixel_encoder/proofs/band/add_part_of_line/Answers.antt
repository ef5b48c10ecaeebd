use Rattle.std.proofs.Common.{◌≡◌, ◌≢◌, ℕ, ◌+◌, ◌-◌, ◌*◌, ◌<◌, ◌≤◌, length, ap, ◌∙◌, arith, true}
use Rattle.sixel_encoder.specs.inside.{Grid.{cell, pixel_bit}, Indexed.entry_of}
use Rattle.sixel_encoder.proofs.band_rows.Cells.{AreMarks-dot, AreMarks-same, place_inside}
use Rattle.sixel_encoder.proofs.band_rows.Lines.{pixel_bit-other, pixel_bit-dot, column-dot}
use Rattle.std.proofs.{Common.false, lemmas.Bool.Decides.nat_tests}
use Rattle.sixel_encoder.proofs.band.add_part_of_line.Goals as goal
use goal.{then-has_row+then-is_opaque, else-has_row, else-has_row-via-then-has_row+else-is_opaque}
use goal.{else-has_row-via-else-has_row, then-first-entry, else-first-entry}

pub columns-preserved : goal.columns-preserved
columns-preserved c =
    let pixels = c.args.image.now.pixels.now in
    let indices = c.args.image.now.indices.now in
    let width = c.args.image.now.width in
    let weight = c.args.line.weight in
    let first = c.args.first in
    let rows = c.columns.rows in
    let used = c.columns.used in
    let column = c.columns.column in
    let entry = c.from-entry.result in
    let others = c.others_from.result in
    let bit : ℕ → ℕ → ℕ =
    λ e k. pixel_bit weight (first + e) (entry_of pixels indices (c.args.line.start + k)) in
    let after : (e x : ℕ) → e < length used → x < width → column < x → x < column + (1 + others)
    → bit e x ≡ 0 =
    λ e x one lx from to. pixel_bit-other pixels indices weight (first + e) (c.args.line.start + x)
    (c.others_from.ensures.others (c.args.line.start + x) e (omega arith) (omega arith)
    (omega arith)) in
    let known : (c.if-first-entry.has_row ≡ true → (first ≤ entry) × (entry < first + length used))
    × (c.if-first-entry.has_row ≡ false → (e : ℕ) → e < length used → entry ≢ first + e) =
    elim c.if-first-entry.branch [
      | then-first-entry v ↦ grind (arith, nat_tests, v.has_row-is)
      | else-first-entry v ↦ grind (arith, nat_tests, v.has_row-is)
    ] in
    elim c.if-has_row.branch [
      | then-has_row+then-is_opaque w ↦
          let row = entry - first in
          let opaque = w.is_opaque.ensures.opaque w.if-is_opaque.true in
          let within = known.0 w.if-has_row.true in
          let one : row < length used = omega (arith, within.0, within.1) in
          let place =
          place_inside c.args.rows.now _ width row column c.requires.rows
          (omega (arith, one, c.columns.auto.used)) c.columns-test.true in
          let inside : row * width + column < length rows =
          omega (arith, c.columns.auto.rows, place) in
          record {
            cells = λ e x le lx.
                let count : e < length used = omega (arith, c.if-has_row.auto.used) in
                ap (λ r. cell r width e x) w.rows-is
                ∙ column-dot (bit e) rows width row column weight (cell c.args.rows.now width e x)
                others e x inside c.columns-test.true lx (c.columns.invariant.cells e x count lx)
                (pixel_bit-dot pixels indices weight first entry column (c.args.line.start + column)
                e opaque c.from-entry.ensures within.0) (after e x count lx);
            marks = grind (arith, nat_tests, AreMarks-same, AreMarks-dot, weight, inside, one);
          }
      | else-has_row w ↦ record {
        cells = λ e x le lx.
            let count : e < length used = omega (arith, c.if-has_row.auto.used) in
            let none : bit e column ≡ 0 = elim w.else-has_row.branch [
              | else-has_row-via-then-has_row+else-is_opaque v ↦
                  grind (arith, nat_tests, weight, first)
              | else-has_row-via-else-has_row v ↦
                  let other = known.1 v.if-has_row.false e count in
                  grind (arith, nat_tests, pixel_bit-other, weight, first, c.from-entry.ensures)
            ] in
            grind (arith, nat_tests, c.columns.invariant.cells);
        marks = AreMarks-same w.rows-is w.used-is c.columns.invariant.marks;
      }
    ]
