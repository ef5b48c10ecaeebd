use Rattle.std.proofs.Common.{◌≡◌, ℕ, ◌*◌, ◌≤◌, List, None, ◌∙◌, arith}
use Rattle.std.proofs.{lemmas.Nat.mul-le, lemmas.Bool.Decides.nat_tests}
use Rattle.sixel_base.specs.{Bytes.front, History.history_of, Limits.Limit, Stroke.Origin}
use Rattle.sixel_base.specs.Payload.{Image, payload_area, payload_fault, payload_image, tokens}
use Rattle.sixel_base.proofs.ToleratedTokens.{effective-fault}
use Rattle.sixel_base.specs.Place.{width, height}
use Rattle.sixel_decoder.proofs.drawing.RowExtents.{cropped_height-most, settled-area, sides-fit}
use Rattle.icy_sixel.proofs.decoder.stream.SixelStreamDecoder.finish_counted.Goals as goal

-- the image has at most the pixels of the extent
fewer : (image : Image) (o : Origin) (bytes : List ℕ) → image ≡ payload_image o bytes
    → image.width * image.height ≤ payload_area o.pixel_limit bytes
fewer image o bytes is = grind (arith, nat_tests, mul-le, cropped_height-most)

-- which are few
few : (limit : Limit) (bytes : List ℕ) → payload_fault limit bytes ≡ None
    → payload_area limit bytes ≤ 1000000000000
few limit bytes sound =
    let h = tokens limit bytes in
    let sides = sides-fit limit h (effective-fault limit (history_of (front bytes)) ∙ sound) in
    mul-le (width h) (height h) 1000000 1000000 sides.0 sides.1

pub with_packed-count-requires : goal.with_packed-count-requires
with_packed-count-requires c =
    let finished = c.in_ok-image.ensures.finished in
    grind (arith, finished, fewer, few, settled-area, c.canvas_writes-writes.ensures.at_most)

pub returns-clause-at_most : goal.returns-clause-at_most
returns-clause-at_most c =
    let session = c.args.self.reader in
    let most = fewer _ session.origin session.bytes c.in_ok-image.ensures.finished.image in
    let area = settled-area session.origin.pixel_limit session.bytes in
    omega (arith, most, area, c.canvas_writes-writes.ensures.at_most)
