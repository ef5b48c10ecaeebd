use Rattle.std.proofs.Common.{◌≡◌, ◌+◌, ◌-◌, ◌++◌, min, length, get_or, ◌∙◌, append_assoc, arith}
use Rattle.std.proofs.lemmas.Result.{on_ok_weaker}
use Rattle.sixel_base.specs.Picture.{joined}
use Rattle.sixel_canvas.specs.inside.Pixels.{pixels_of}
use Rattle.sixel_canvas.proofs.{PixelLists.flat_map-part, Pixels.joined-part}
use Rattle.sixel_canvas.proofs.row.Row.pack.Goals as goal

pub returns-clause-ok : goal.returns-clause-ok
returns-clause-ok c =
    let row = c.self.inside in
    let bytes = row.bytes.items in
    let pixels = pixels_of bytes in
    let n = length pixels in
    let from = c.args.from in
    let count = c.args.count in
    let front = c.args.bytes.now.items in
    let begin = c.min-begin.result in
    let held = c.min-held.result in
    let begins : begin ≡ min from n =
    grind (arith, c.min-begin.ensures, c.len.ensures.value) in
    let least : held ≡ min count (n - begin) =
    grind (arith, c.min-held.ensures, c.len-2.ensures.value) in
    let rest = joined (λ _. row.background) (count - held) in
    let whole = joined-part pixels row.background from begin held count begins least in
    let flat = flat_map-part bytes begin held n c.self.invariant.1
    (omega (arith, begins, least)) in
    let step : c.extend_from_slice.new.self.items ++ rest
    ≡ front
    ++ joined (λ k. get_or c.args.self.now.pixels (from + k) c.args.self.now.background) count =
    grind (arith, append_assoc) in
    on_ok_weaker c.add_pixels.result (λ written. written ∙ step) c.add_pixels.ensures.ok
