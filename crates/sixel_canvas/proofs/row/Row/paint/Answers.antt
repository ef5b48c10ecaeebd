use Rattle.std.proofs.Common.{◌≡◌, ◌≤◌, ◌-◌, ◌*◌, ◌++◌, length, take, drop, ap, arith, rules}
use Rattle.std.proofs.lemmas.{Bool.Decides.nat_tests, Grind.common_steps, List.with_items_is}
use Rattle.sixel_base.specs.Picture.{joined}
use Rattle.sixel_canvas.specs.Row.{RowState}
use Rattle.sixel_canvas.specs.inside.Pixels.{pixels_of}
use Rattle.sixel_canvas.proofs.PixelLists.{length-painted_bytes, pixels_of-painted, thrifty_written}
use Rattle.sixel_canvas.proofs.row.Row.paint.Goals as goal

held_is : (c : goal.After-self-1) → c.args.to ≤ length (pixels_of c.self.inside.bytes.items)
held_is c = omega (arith, c.requires.held, ap (λ (r : RowState). length r.pixels) c.self.view_is)

-- what the bytes are then, and how many
bytes_are : (c : goal.After-self-1)
    → c.paint_pixels.new.bytes
    ≡ take (4 * c.args.from) c.self.inside.bytes.items
    ++ joined (λ _. c.args.color) (c.args.to - c.args.from)
    ++ drop (4 * c.args.to) c.self.inside.bytes.items
bytes_are c = grind (arith, common_steps, nat_tests)

bytes_long : (c : goal.After-self-1)
    → length c.paint_pixels.new.bytes ≡ 4 * length (pixels_of c.self.inside.bytes.items)
bytes_long c = grind (arith, nat_tests, length-painted_bytes, held_is, bytes_are)

pub returns-clause-after : goal.returns-clause-after
returns-clause-after c =
    let row = c.self.inside in
    let four : length c.args.color ≡ 4 = search rules in
    let is =
    with_items_is row.bytes c.paint_pixels.new.bytes
    (omega (arith, bytes_long c, c.self.invariant.1, row.bytes.ok.0)) in
    let painted =
    pixels_of-painted row.bytes.items c.args.color c.args.from c.args.to _ c.requires.ordered
    (held_is c) c.self.invariant.1 four in
    grind (arith, bytes_are c)

pub invariant_of-self : goal.invariant_of-self
invariant_of-self c =
    let row = c.self.inside in
    let kept = thrifty_written row.background row.bytes.items c.paint_pixels.new.bytes _ row.room
    row.writes (length (pixels_of row.bytes.items))
    (with_items_is row.bytes c.paint_pixels.new.bytes
    (omega (arith, bytes_long c, c.self.invariant.1, row.bytes.ok.0)))
    c.self.invariant.1 (bytes_long c) c.self.invariant.2 in
    (c.self.invariant.0, kept.0, kept.1)

pub returns-clause-thrifty : goal.returns-clause-thrifty
returns-clause-thrifty c = (invariant_of-self c).2
