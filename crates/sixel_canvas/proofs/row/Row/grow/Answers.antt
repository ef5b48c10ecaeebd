use Rattle.std.proofs.Common.{◌≡◌, ◌-◌, ◌++◌, length, sym, ap, ◌∙◌, arith}
use Rattle.std.proofs.{Common.rules, lemmas.Bool.Decides.nat_tests, lemmas.Grind.common_steps}
use Rattle.sixel_base.specs.Picture.{joined}
use Rattle.sixel_canvas.specs.{Row.RowState, inside.Pixels.pixels_of}
use Rattle.sixel_canvas.proofs.{PixelLists.pixels_of-added, RowBytes.when_ok}
use Rattle.sixel_canvas.proofs.row.Row.grow.Goals as goal

-- how many pixels the row had
len_is : (c : goal.After-self-2-1) → c.len-len.result ≡ length (pixels_of c.self.inside.bytes.items)
len_is c = c.len-len.ensures.value ∙ sym (ap (λ (r : RowState). length r.pixels) c.self.view_is)

-- its bytes then
bytes_are : (c : goal.After-self-2-1)
    → c.add_pixels-added.new.bytes.items
    ≡ c.self.inside.bytes.items
    ++ joined (λ _. c.self.inside.background) (c.args.columns - c.len-len.result)
bytes_are c = grind (arith, nat_tests, when_ok, len_is)

pub returns-clause-ok : goal.returns-clause-ok
returns-clause-ok c =
    let four : length c.self.inside.background ≡ 4 = search rules in
    let row = c.self.inside in
    let added =
    pixels_of-added row.bytes.items row.background (length (pixels_of row.bytes.items))
    (c.args.columns - c.len-len.result) c.self.invariant.1 four in
    grind (arith, bytes_are c, c.room_after-room.ensures, c.written_to_grow-written.ensures)

pub invariant_of-self-2 : goal.invariant_of-self-2
invariant_of-self-2 c = grind (arith, common_steps, returns-clause-ok)

pub returns-clause-thrifty : goal.returns-clause-thrifty
returns-clause-thrifty c = (invariant_of-self-2 c).2
