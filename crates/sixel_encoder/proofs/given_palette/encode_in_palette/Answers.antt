use Rattle.std.proofs.{Common.{◌≡◌, None, length, ap, arith}, lemmas.Bool.Decides.nat_tests}
use Rattle.sixel_palette.specs.Dithering.{AreDithered}
use Rattle.sixel_encoder.specs.Encoding.{image_fault, source_value}
use Rattle.sixel_palette.proofs.mapped_images.GraySource.{dithered-count, dithered-entry}
use Rattle.sixel_encoder.proofs.{drawings.PaletteText.rows-sound, drawings.Sizes.rows-image}
use Rattle.sixel_encoder.proofs.drawings.Sizes.{within-sound, none-found}
use Rattle.sixel_encoder.proofs.given_palette.encode_in_palette.Goals.{After-deref}
use Rattle.sixel_encoder.proofs.given_palette.encode_in_palette.Goals as goal

-- the sizes are valid
sound : (c : After-deref) → image_fault (source_value c.args.source.now) ≡ None
sound c = none-found _ _ _ c.validate_source.ensures c.in_ok-validate_source.was

-- the indices
told : (c : After-deref)
    → AreDithered c.args.mapping c.args.source.now.width c.args.source.now.pixels.now
    c.args.colors.now c.in_ok-indices.indices.items
told c = grind (arith, nat_tests)

pub dithered_indices-requires : goal.dithered_indices-requires
dithered_indices-requires c =
    let image = source_value c.args.source.now in
    let valid = none-found _ _ _ c.validate_source.ensures c.in_ok-validate_source.was in
    let within = within-sound image valid in
    let rows = rows-image image valid in
    grind (arith, nat_tests)

pub encode_drawing-requires-clause-count : goal.encode_drawing-requires-clause-count
encode_drawing-requires-clause-count c =
    let image = source_value c.args.source.now in
    let count =
    dithered-count c.args.mapping image.width image.pixels c.args.colors.now
    c.in_ok-indices.indices.items (told c) in
    rw c.deref.ensures.value (omega (arith, (within-sound image (sound c)).sized, count))

pub encode_drawing-requires-clause-opaque : goal.encode_drawing-requires-clause-opaque
encode_drawing-requires-clause-opaque c = λ pixel inside opaque.
    let image = source_value c.args.source.now in
    let indices = c.in_ok-indices.indices.items in
    let colors = c.args.colors.now in
    let count = dithered-count c.args.mapping image.width image.pixels colors indices (told c) in
    rw c.deref.ensures.value
    (dithered-entry c.args.mapping image.width image.pixels colors indices pixel
    (rows-sound image (sound c)) (told c)
    (omega (arith, count, inside, ap length c.deref.ensures.value)) opaque)
