use Rattle.std.proofs.{Common.{◌*◌, max, length, sym, ◌∙◌, arith}, lemmas.Result.on_ok_weaker}
use Rattle.std.specs.Prelude.{nat_le, nat_lt, ◌&&◌, if◌then◌else◌}
use Rattle.sixel_base.specs.Picture.{is_struck}
use Rattle.sixel_canvas.specs.inside.TaggedRow.{tagged_pixel}
use Rattle.sixel_canvas.proofs.{RowBands.{band_drawn, band_read}, StruckRows.if_and}
use Rattle.sixel_canvas.proofs.row_canvas.RowCanvas.draw_band.Goals as goal

pub returns-clause-drawn : goal.returns-clause-drawn
returns-clause-drawn c =
    let all = c.self.inside in
    let bands = all.bands.items in
    let bits = c.args.bits in
    let some = rw (← c.self.view_is) at c.requires.made in
    let here = band_read bands all.band c.index_mut.result.now some c.index_mut.ensures.value in
    rw (← c.self.view_is) (on_ok_weaker c.draw.result
    (λ drawn column row.
    let inside = nat_le c.args.from column && nat_lt column c.args.to in
    band_drawn (λ line. tagged_pixel line column) (λ pixel. if inside then c.args.color else pixel)
    bands c.draw.new.self all.background all.band bits row some
    (λ k. rw (← here)
    (drawn all.background column k ∙ if_and inside (is_struck 0 bits k) c.args.color _))
    ∙ sym (if_and inside (is_struck (6 * all.band) bits row) c.args.color _))
    c.draw.ensures.drawn)

pub returns-clause-grown : goal.returns-clause-grown
returns-clause-grown c =
    let all = c.self.inside in
    let bands = all.bands.items in
    let bits = c.args.bits in
    let some = rw (← c.self.view_is) at c.requires.made in
    let here = band_read bands all.band c.index_mut.result.now some c.index_mut.ensures.value in
    rw (← c.self.view_is) (on_ok_weaker c.draw.result
    (λ grown row.
    band_drawn (λ line. length line.row.pixels) (λ n. max n c.args.to) bands c.draw.new.self
    all.background all.band bits row some (λ k. rw (← here) (grown all.background k)))
    c.draw.ensures.grown)

pub returns-clause-held : goal.returns-clause-held
returns-clause-held c = λ single fits. grind (arith, band_read)
