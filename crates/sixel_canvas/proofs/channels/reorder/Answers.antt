use Rattle.std.proofs.Common.{ℕ, ◌+◌, ◌*◌, ◌≤◌, ◌∙◌, length, ap, arith}
use Rattle.sixel_canvas.specs.Layout.{in_order, pixel_at}
use Rattle.sixel_canvas.proofs.PixelBytes.{pixel_kept, pixel_four, put_len, put_more}
use Rattle.sixel_canvas.proofs.channels.reorder.Goals as goal
use Rattle.std.proofs.lemmas.List.{get_or-set_other}

pub ordered-preserved : goal.ordered-preserved
ordered-preserved c =
    let before = c.ordered.invariant in
    let column = c.ordered.column in
    let now = c.ordered.pixels in
    let old = c.args.pixels.now in
    let f = λ (k : ℕ). in_order c.args.order (pixel_at old k) in
    let fits : 4 * column + 4 ≤ length now = omega (arith, before.0, c.ordered-test.true) in
    let inside : 4 * column + 4 ≤ length old = omega (arith, before.0, fits) in
    let is =
    c.of-bytes.ensures
    ∙ ap (in_order c.args.order)
    (pixel_four now column fits ∙ pixel_kept now old column fits inside before.2) in (
      put_len now (4 * column) c.of-bytes.result ∙ before.0,
      put_more now c.of-bytes.result f column fits is before.1,
      grind (arith, get_or-set_other),
    )
