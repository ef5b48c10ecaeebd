use Rattle.std.proofs.{Common.{◌≤◌, ◌∙◌, arith}, lemmas.List.with_items_is}
use Rattle.sixel_canvas.proofs.BandStates.{row_filled}
use Rattle.sixel_canvas.proofs.band.Band.draw_row.Goals as goal

pub invariant_of-self : goal.invariant_of-self
invariant_of-self c =
    let band = c.self.inside in
    let is =
    with_items_is band.pixels c.fill.new.pixels (c.fill.ensures.len ∙ c.deref_mut.ensures.len) in
    let within : c.args.to ≤ band.cap = grind (arith, c.self.invariant.reached) in
    let shown =
    row_filled band.background band.pixels.items c.fill.new.pixels band.cap band.extent c.args.k
    c.args.from c.args.to c.args.color c.requires.six c.requires.ordered within
    (rw (← c.deref_mut.ensures.value) (c.fill.ensures.filled band.background)) in
    grind (arith)

pub returns-clause-whole : goal.returns-clause-whole
returns-clause-whole c = invariant_of-self c

pub returns-clause-drawn : goal.returns-clause-drawn
returns-clause-drawn c =
    let band = c.self.inside in
    let is =
    with_items_is band.pixels c.fill.new.pixels (c.fill.ensures.len ∙ c.deref_mut.ensures.len) in
    let within : c.args.to ≤ band.cap =
    grind (arith, c.self.invariant.reached, c.requires.reached) in
    rw (is, ← c.self.view_is) (row_filled band.background band.pixels.items c.fill.new.pixels
    band.cap band.extent c.args.k c.args.from c.args.to c.args.color c.requires.six
    c.requires.ordered within
    (rw (← c.deref_mut.ensures.value) (c.fill.ensures.filled band.background)))
