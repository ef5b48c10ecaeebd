use Rattle.std.proofs.{Common.{◌/◌, arith, length}}
use Rattle.sixel_palette.proofs.mapped_images.DitheredIndices.{AreRowsOf}
use Rattle.sixel_palette.proofs.mapped_images.GraySource.{dithered-count, dithered-entry}
use Rattle.sixel_palette.proofs.refinement.Refinement.{refinement-some}
use Rattle.sixel_palette.proofs.dithering.map_to_refined.Goals as goal

pub returns-clause-count : goal.returns-clause-count
returns-clause-count c =
    let image = c.plain-image.result in
    let mapping = c.refined_mapping-mapping.result in
    dithered-count mapping c.args.width c.args.pixels.now image.colors.now
    c.in_ok-indices.indices.items
    (rw (c.plain-image.ensures.pixels, c.plain-image.ensures.width) at c.in_ok-indices.ensures)

pub returns-clause-known : goal.returns-clause-known
returns-clause-known c =
    let image = c.plain-image.result in
    let mapping = c.refined_mapping-mapping.result in
    let rows : AreRowsOf c.args.pixels.now c.args.width = record {
      some = c.requires.width;
      count = length c.args.pixels.now / 4 / c.args.width;
      whole = omega (arith, c.requires.rows);
    } in
    let told =
    rw (c.plain-image.ensures.pixels, c.plain-image.ensures.width) at c.in_ok-indices.ensures in
    λ pixel inside opaque.
    rw (c.plain-image.ensures.colors, c.deref.ensures.value) at
    (dithered-entry mapping c.args.width c.args.pixels.now image.colors.now
    c.in_ok-indices.indices.items pixel rows told inside opaque)

pub returns-clause-spread : goal.returns-clause-spread
returns-clause-spread c =
    rw c.spread_amount-amount.ensures at
    (refinement-some c.args.pixels.now c.args.room _ c.in_ok-refinement.refinement
    c.in_ok-refinement.ensures c.in_ok-indices.indices (returns-clause-count c))
