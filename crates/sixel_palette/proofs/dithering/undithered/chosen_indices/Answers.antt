use Rattle.std.proofs.Common.{◌≡◌, ◌+◌, ◌-◌, ◌*◌, ◌≤◌, ◌<◌, ℕ, List, arith, refl, subst, length}
use Rattle.std.proofs.{Common.{inl, inr}, lemmas.Bool.cases_lt, lemmas.Bool.Decides.nat_tests}
use Rattle.std.proofs.lemmas.List.{get_or-replicate, get_or_past, length-replicate}
use Rattle.std.specs.Prelude.{◌/◌, ◌%◌}
use Rattle.sixel_palette.specs.{Dithering.undithered_of, Palette.IsOpaque, Undithered.cheapest}
use Rattle.sixel_palette.specs.{Undithered.pixel_of, inside.Mapped.mapped_value}
use Rattle.sixel_palette.proofs.mapped_images.DitheredIndices.{AreEntries-indices, AreRows-image}
use Rattle.sixel_palette.proofs.mapped_images.UnditheredLaws.{AreChosen-free}
use Rattle.sixel_palette.proofs.mapped_images.UnditheredVisits.{AreChosen-visited, AreVisited-band}
use Rattle.sixel_palette.proofs.mapped_images.UnditheredVisits.{AreVisited-column, AreVisited-equal}
use Rattle.sixel_palette.proofs.mapped_images.UnditheredVisits.{AreVisited-set, with_entries}
use Rattle.sixel_palette.proofs.dithering.undithered.chosen_indices.Goals as goal

pub returns-then-image-eq0 : goal.returns-then-image-eq0
returns-then-image-eq0 c =
    let m = mapped_value c.args.image.now in
    let nearest = c.args.nearest.items in (
      nearest,
      c.requires.nearest,
      AreChosen-free (undithered_of m nearest nearest)
          (AreEntries-indices m nearest (AreRows-image c.args.image.now c.requires.image)
          c.requires.nearest)
          (omega (arith, c.if-image-eq0.true)) c.requires.nearest refl,
    )

pub loop-band-init : goal.loop-band-init
loop-band-init c = record {
  size = grind (arith, nat_tests, length-replicate);
  entries = grind (arith, nat_tests, cases_lt, get_or-replicate, get_or_past, length-replicate);
  each = λ x y l inside is.
      elim is [
        | inl early ↦ absurd (omega (arith, early))
        | inr same ↦ absurd (omega (arith, same.1))
      ];
}

pub loop-row-preserved : goal.loop-row-preserved
loop-row-preserved c =
    let u = undithered_of (mapped_value c.args.image.now) c.args.nearest.items
    c.loop-row.chosen.items in
    let band = c.loop-band.band in
    let column = c.loop-column.column in
    let row = c.loop-row.row in
    let first : 6 * band ≤ row = grind (arith, nat_tests) in
    let last : row < 6 * band + 6 = grind (arith, nat_tests) in
    let own : band ≡ row / 6 = omega (arith, first, last) in
    let across : column < u.width = grind (arith, nat_tests) in
    let inside : row * u.width + column < length u.pixels / 4 = grind (arith, nat_tests) in
    let ensures = c.index-index.ensures in
    let index = c.index-index.result in
    let light = IsOpaque u.pixels (pixel_of u column row) in
    let opaque : light → index ≡ cheapest u column row =
    subst (λ (n : List ℕ).
    light → index ≡ cheapest (with_entries u u.pixels n u.chosen) column row)
    c.deref.ensures.value
    (subst (λ (b : List ℕ).
    light → index ≡ cheapest (with_entries u u.pixels c.deref.result.now b) column row)
    c.deref-in-loop-row.ensures.value ensures.opaque) in
    let are =
    AreVisited-equal u band (6 * column + (row - 6 * band)) (row / 6) (6 * column + row % 6)
    c.loop-row.invariant own (omega (arith, first, last)) in
    AreVisited-equal _ (row / 6) (6 * column + row % 6 + 1) band (6 * column + (row + 1 - 6 * band))
    (AreVisited-set u column row index across inside are opaque ensures.hidden
    (ensures.entry c.requires.image.some))
    (omega (arith, own)) (omega (arith, first, last))

pub loop-column-preserved : goal.loop-column-preserved
loop-column-preserved c =
    let u = undithered_of (mapped_value c.args.image.now) c.args.nearest.items
    c.loop-row.chosen.items in
    AreVisited-column u (grind (arith, nat_tests, c.requires.image.whole.rows)) c.loop-band.band
    c.loop-column.column c.loop-row.row (grind (arith, nat_tests)) c.loop-row.invariant

pub loop-band-preserved : goal.loop-band-preserved
loop-band-preserved c =
    let u = undithered_of (mapped_value c.args.image.now) c.args.nearest.items
    c.loop-column.chosen.items in
    AreVisited-band u (grind (arith, nat_tests, c.requires.image.whole.rows)) c.loop-band.band
    c.loop-column.column (grind (arith, nat_tests)) c.loop-column.invariant

pub returns : goal.returns
returns c =
    let u = undithered_of (mapped_value c.args.image.now) c.args.nearest.items
    c.loop-band.chosen.items in (
      c.args.nearest.items,
      c.requires.nearest,
      AreChosen-visited u (grind (arith, nat_tests, c.requires.image.whole.rows)) c.loop-band.band
          (grind (arith, nat_tests)) c.loop-band.invariant,
    )
