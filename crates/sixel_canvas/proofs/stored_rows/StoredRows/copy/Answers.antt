use Rattle.std.proofs.Common.{◌+◌, ◌-◌, ◌*◌, length, refl, ◌∙◌, arith}
use borrow.Rule.Slice.PartMut.{same_len_mid}
use Rattle.sixel_canvas.{proofs.CopiedRows.copied_row, specs.Layout.{AreRowsIn, stored_pixel}}
use Rattle.sixel_canvas.proofs.stored_rows.StoredRows.copy.Goals as goal

pub copied-preserved : goal.copied-preserved
copied-preserved c =
    let before = c.copied.invariant in
    let all = c.args.self.now in
    let shown = stored_pixel all.bytes.now all.width all.rows all.background in
    let layout = c.args.layout in
    let k = c.copied.row in
    let start = k * layout.stride in
    let n = start + 4 * layout.columns - start in
    let fits : AreRowsIn layout c.args.rows (length c.copied.out) =
    rw before.1 c.requires.fits in (
      refl,
      same_len_mid start n c.copied.out c.copy_row.new.out c.copy_row.ensures.len ∙ before.1,
      copied_row shown c.args.first c.args.rows k n layout c.args.out.now
          c.copied.out c.copy_row.new.out fits c.copied-test.true (omega arith)
          c.copy_row.ensures.len c.copy_row.ensures.copied before.2,
    )
