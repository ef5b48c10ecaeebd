use Rattle.std.proofs.{Common.{◌∙◌, arith}, lemmas.List.with_items_is}
use Rattle.sixel_canvas.proofs.BandStates.{cleared}
use Rattle.sixel_canvas.proofs.band.Band.clear.Goals as goal

pub invariant_of-self : goal.invariant_of-self
invariant_of-self c =
    let band = c.self.inside in
    let is =
    with_items_is band.pixels c.fill_rows.new.pixels
    (c.fill_rows.ensures.len ∙ c.deref_mut.ensures.len) in
    let shown =
    cleared band.background band.pixels.items c.fill_rows.new.pixels band.cap band.extent
    c.self.invariant
    (rw (← c.deref_mut.ensures.value) (c.fill_rows.ensures.drawn band.background)) in
    grind (arith)

pub returns-clause-shown : goal.returns-clause-shown
returns-clause-shown c =
    let band = c.self.inside in
    let is =
    with_items_is band.pixels c.fill_rows.new.pixels
    (c.fill_rows.ensures.len ∙ c.deref_mut.ensures.len) in
    rw (is, ← c.self.view_is) (cleared band.background band.pixels.items c.fill_rows.new.pixels
    band.cap band.extent c.self.invariant
    (rw (← c.deref_mut.ensures.value) (c.fill_rows.ensures.drawn band.background)))

pub returns-clause-whole : goal.returns-clause-whole
returns-clause-whole c = invariant_of-self c
