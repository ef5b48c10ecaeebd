use Rattle.std.proofs.{Common.{◌≡◌, length, arith}, lemmas.Bool.Decides.nat_tests}
use Rattle.sixel_palette.specs.{Dithering.mapped_of, Gray.source_pixels}
use Rattle.sixel_palette.proofs.mapped_images.AllKinds.{have-none}
use Rattle.sixel_palette.proofs.mapped_images.GraySource.{AreRowsOf-source, IsSource-pixels}
use Rattle.sixel_palette.proofs.mapped_images.GraySource.{gray-length}
use Rattle.sixel_palette.proofs.dithering.indices_from.Goals as goal

pub returns-then-is_empty : goal.returns-then-is_empty
returns-then-is_empty c =
    let image = c.args.image.now in
    let pixels = image.pixels.now in
    let colors = image.colors.now in
    let mapping = c.args.mapping in
    let s = source_pixels mapping colors pixels in
    let is = IsSource-pixels mapping colors pixels in
    let m = mapped_of mapping image.width s colors in
    let none : length colors ≡ 0 = grind (arith, nat_tests) in
    have-none mapping.dither m c.in_ok-indices.field-0.items
    (grind (arith, nat_tests, AreRowsOf-source))
    none (grind (arith, nat_tests))

pub mapped_indices-requires-2-clause-image : goal.mapped_indices-requires-2-clause-image
mapped_indices-requires-2-clause-image c =
    grind (
      arith,
      nat_tests,
      c.in_ok-grays.ensures,
      gray-length,
      c.requires.whole,
      c.requires.strength,
      c.if-is_empty.false,
      c.is_empty.ensures,
    )
