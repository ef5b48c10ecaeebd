use Rattle.std.proofs.Common.{◌≡◌, ℕ, ◌+◌, ◌-◌, ◌*◌, ◌<◌, ◌≤◌, ◌++◌, append_assoc, arith, false}
use Rattle.std.proofs.{Common.{get_or, length, string_bytes, true}, lemmas.Bool.Decides.nat_tests}
use Rattle.std.proofs.lemmas.List.{append-nil, get_or_default, length-set, places, with_items_is}
use Rattle.sixel_encoder.specs.{Text.row_text, inside.Grid.{cell, grid_row}}
use Rattle.sixel_encoder.proofs.{JoinedLists.joined-none, band_rows.Parts.progress-used}
use Rattle.sixel_encoder.proofs.{band_rows.Parts.progress-unused, band_rows.RowParts.part-row}
use Rattle.sixel_encoder.proofs.band_rows.RowParts.{All-grid_row, cell-put_other}
use Rattle.sixel_encoder.proofs.band.BandRows.push_rows.Goals as goal

pub loop-row-init : goal.loop-row-init
loop-row-init c = grind (arith, nat_tests, string_bytes, joined-none, append-nil)

pub loop-row-preserved-then-not-index : goal.loop-row-preserved-then-not-index
loop-row-preserved-then-not-index c =
    let is = c.loop-row.invariant in
    let used = c.loop-row.self.used.items in
    let inside : c.loop-row.row < length used = grind (arith, nat_tests) in
    let mark : get_or used c.loop-row.row false ≡ false =
    grind (arith, nat_tests, get_or_default) in
    record {
      progress = progress-unused _ _ _ _ _ _ _ _ _ is.progress c.requires.marks is.shape.marks
          inside mark;
      shape = is.shape;
    }

pub push_row-requires : goal.push_row-requires
push_row-requires c =
    let rows = c.loop-row.self.rows.items in
    let row = c.loop-row.row in
    let width = c.loop-row.self.width in
    let within : row * width + width ≤ length rows = grind (arith, nat_tests) in
    let below : (x : ℕ) → x < width → cell rows width row x < 64 = grind (arith, nat_tests) in
    let size : row * width + width - row * width ≡ width = omega arith in
    rw c.deref.ensures.value (rw (part-row rows width row _ size within)
    (All-grid_row (λ bits. bits < 64) rows width row below))

pub loop-row-preserved : goal.loop-row-preserved
loop-row-preserved c =
    let is = c.loop-row.invariant in
    let old = c.loop-row.self in
    let row = c.loop-row.row in
    let inside : row < length old.used.items = grind (arith, nat_tests) in
    let mark : get_or old.used.items row false ≡ true = grind (arith, nat_tests, get_or_default) in
    let within : row * old.width + old.width ≤ length old.rows.items = grind (arith, nat_tests) in
    let text : string_bytes c.push-in-loop-row.new.self ≡ string_bytes c.loop-row.text
    ++ row_text (old.first + row) (grid_row old.rows.items old.width row) =
    grind (arith, append_assoc, part-row, c.deref.ensures.value, within) in
    record {
      progress = progress-used _ _ _ _ _ _ _ _ _ is.progress _ _ c.requires.marks is.shape.marks
          inside mark (rw (is.shape.wide, is.shape.from) at text)
          (rw (← is.shape.wide)
          (grind (arith, with_items_is, nat_tests, places, c.fill.ensures.clones)))
          (rw (← is.shape.wide)
          (grind (arith, with_items_is, cell-put_other, c.deref_mut.ensures.value)));
      shape = grind (arith, nat_tests, with_items_is, length-set);
    }
