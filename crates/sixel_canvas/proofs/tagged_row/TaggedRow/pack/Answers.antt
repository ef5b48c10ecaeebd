use Rattle.std.proofs.Common.{◌≡◌, ◌+◌, ◌*◌, min, append_assoc, arith}
use Rattle.std.{proofs.lemmas.Bool.Decides.nat_tests, proofs.lemmas.List.append-nil}
use Rattle.sixel_base.{proofs.PictureBytes.joined-add, specs.Picture.joined}
use Rattle.sixel_canvas.proofs.tagged_row.TaggedRow.pack.Goals as goal

pub segments-init : goal.segments-init
unfolding joined
segments-init c = grind (arith, nat_tests, append-nil)

pub segments-preserved : goal.segments-preserved
segments-preserved c =
    let width = c.args.width in
    let from = c.segments.tile * 128 in
    let count = c.min.result in
    let after : min ((c.segments.tile + 1) * 128) width ≡ from + count =
    omega (arith, c.segments-test.true, c.div_ceil-tile-end.ensures, c.min.ensures) in
    grind (arith, append_assoc, joined-add)
