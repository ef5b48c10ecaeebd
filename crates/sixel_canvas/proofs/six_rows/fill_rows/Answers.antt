use Rattle.std.proofs.Common.{◌≡◌, ◌<◌, [], true, arith}
use Rattle.sixel_base.specs.Picture.{is_set}
use Rattle.sixel_canvas.proofs.{BandCopies.{row_above, row_colored}, BandRows.struck_more}
use Rattle.std.proofs.lemmas.{Bool.Decides.nat_tests, Nat.row_fits}
use Rattle.sixel_canvas.proofs.six_rows.fill_rows.Goals as goal

pub drawn-preserved : goal.drawn-preserved
drawn-preserved c = grind (arith, nat_tests, struck_more)

pub fill_row-requires-clause-before : goal.fill_row-requires-clause-before
fill_row-requires-clause-before c = grind (arith, row_fits)

pub fill_row-requires-clause-colored : goal.fill_row-requires-clause-colored
fill_row-requires-clause-colored c = λ above i low high.
    let first = c.min.result in
    let lower = row_above c.args.cap c.args.from c.drawn.bit first above in
    let six : first < 6 = omega (arith, c.min.ensures) in
    let set : is_set c.args.bits first ≡ true = grind (arith) in
    row_colored c.args.pixels.now c.drawn.pixels c.args.cap c.args.from c.args.to c.args.bits
    c.drawn.bit first c.args.color i c.requires.within lower six set
    (λ column inside. c.drawn.invariant.drawn [] column first inside six) low (omega (arith, high))
