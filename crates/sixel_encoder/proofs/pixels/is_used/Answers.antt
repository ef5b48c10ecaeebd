use Rattle.std.proofs.Common.{◌≡◌, ◌+◌, ◌-◌, ◌*◌, ◌<◌, length, arith}
use Rattle.std.proofs.lemmas.Bool.Decides.{nat_tests}
use Rattle.sixel_encoder.proofs.drawings.IndexedText.{get_or-entries}
use Rattle.sixel_encoder.proofs.band_rows.Masks.{length-entries}
use Rattle.sixel_encoder.proofs.round_trip.UsedBands.{window-any, window-some}
use Rattle.sixel_encoder.proofs.pixels.is_used.Goals as goal

pub returns-in-Some : goal.returns-in-Some
returns-in-Some c =
    let image = c.args.image.now in
    let start = 6 * c.args.band * image.width in
    let pixel = c.loop-pixel.pixel in
    let size = length-entries image c.requires.image in
    let place : start + (pixel - start) ≡ pixel = omega arith in
    let low : pixel < length image.indices.now = omega arith in
    grind
    (arith, nat_tests, get_or-entries image.pixels.now image.indices.now pixel low, window-any)

pub returns : goal.returns
returns c = grind (arith, nat_tests, length-entries, window-some, get_or-entries)
