use Rattle.std.proofs.Common.{length, min, ◌≡◌, ◌+◌, ◌%◌, ◌∙◌, get_or, ap, length-append, arith}
use Rattle.sixel_canvas.{proofs.PixelBytes.row_bytes, specs.Layout.in_order}
use Rattle.sixel_canvas.proofs.channels.copy_row.Goals as goal

pub returns-clause-copied : goal.returns-clause-copied
returns-clause-copied c = λ i inside.
    let pixels = c.args.pixels.now in
    let len = length c.args.row.now in
    let order = c.args.order in
    let stored = c.reorder.new.pixels in
    let rest = c.fill_rgba_span.new.span in
    let front : length stored ≡ min (length pixels) len = grind (arith) in
    let all : length stored + length rest ≡ len =
    grind (arith, length-append stored rest) in
    row_bytes (in_order order) pixels c.args.background stored rest len i c.requires.stored
    c.requires.whole front
    (grind (arith))
    (λ j h. c.fill_rgba_span.ensures j h ∙ ap (λ p. get_or p (j % 4) 0) c.of.ensures) all inside
