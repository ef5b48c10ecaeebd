use Rattle.std.{proofs.Common.{◌≡◌, ◌<◌, ℕ, length, subst, arith, refl}, specs.Prelude.{◌/◌, All}}
use Rattle.std.{proofs.lemmas.Bool.Decides.nat_tests, proofs.lemmas.List.get_or_default}
use Rattle.sixel_palette.{proofs.colors.Colors.IsColor, proofs.mapped_images.DiffusionLaws.AreHeld}
use Rattle.sixel_palette.proofs.mapped_images.DiffusionLaws.{AreIndices-exact}
use Rattle.sixel_palette.proofs.mapped_images.DitheredIndices.{AreRows}
use Rattle.sixel_palette.proofs.mapped_images.GraySource.{AreIndices-source, AreRowsOf-source}
use Rattle.sixel_palette.proofs.mapped_images.GraySource.{IsSource-pixels, bytes-source}
use Rattle.sixel_palette.proofs.mapped_images.GraySource.{dithered-count, chosen-own}
use Rattle.sixel_palette.proofs.mapped_images.PaletteError.{tolerance-held}
use Rattle.sixel_palette.proofs.mapped_images.UnditheredLaws.{AreIndices-chosen, chosen-bound}
use Rattle.sixel_palette.specs.Dithering.{HaveIndices, Mapped, mapped_of, tolerance_of}
use Rattle.sixel_palette.{specs.Dithering.undithered_of, specs.Gray.source_pixels}
use Rattle.sixel_palette.{specs.Palette.{IsOpaque, color_at}, specs.declared.dither.Dither.Dither}
use Rattle.sixel_palette.specs.declared.dither.Dither.TheVariants.{Off}
use Rattle.sixel_palette.proofs.dithering.palette_indices.Goals as goal

-- the rows of an image without a fault, mapped in any way to the colors
rows-of : (c : goal.In_ok-dithered_indices) (m : Mapped) → m.width ≡ c.args.width
    → m.pixels ≡ c.args.pixels.now → m.colors ≡ c.args.colors.now → AreRows m
rows-of c m wide pixels colors = grind (arith, nat_tests)

pub returns-clause-count : goal.returns-clause-count
returns-clause-count c =
    dithered-count c.args.mapping c.args.width c.args.pixels.now c.args.colors.now
    c.in_ok-dithered_indices.field-0.items (grind (arith, nat_tests))

-- the image that is mapped
abbrev source-of : goal.In_ok-dithered_indices → Mapped
source-of c = mapped_of c.args.mapping c.args.width
    (source_pixels c.args.mapping c.args.colors.now c.args.pixels.now) c.args.colors.now

source-rows : (c : goal.In_ok-dithered_indices) → AreRows (source-of c)
source-rows c =
    let pixels = c.args.pixels.now in
    let colors = c.args.colors.now in
    let plain = rows-of c (mapped_of c.args.mapping c.args.width pixels colors) refl refl refl in
    record {
      some = plain.some;
      rows = AreRowsOf-source pixels (source_pixels c.args.mapping colors pixels) c.args.width
          (IsSource-pixels c.args.mapping colors pixels) plain.rows;
    }

-- the choice without dithering
undithered-of : (c : goal.In_ok-dithered_indices) → c.args.mapping.dither ≡ Off
    → HaveIndices Off (source-of c) c.in_ok-dithered_indices.field-0.items
undithered-of c off =
    let indices = c.in_ok-dithered_indices.field-0.items in
    subst (λ (d : Dither). HaveIndices d (source-of c) indices) off (grind (arith, nat_tests))

pub returns-clause-nearest : goal.returns-clause-nearest
returns-clause-nearest c = λ off exact.
    let have = undithered-of c off in
    let rows = source-rows c in
    let nearest =
    AreIndices-chosen (undithered_of (source-of c) have.0 c.in_ok-dithered_indices.field-0.items)
    have.2 have.1 rows.rows.some rows.some (grind (arith, exact)) in
    rw (off, exact) at nearest

pub returns-clause-exact : goal.returns-clause-exact
returns-clause-exact c = λ strength is none held.
    let pixels = c.args.pixels.now in
    let colors = c.args.colors.now in
    let dither = c.args.mapping.dither in
    let s = source_pixels c.args.mapping colors pixels in
    let of = IsSource-pixels c.args.mapping colors pixels in
    let m = mapped_of c.args.mapping c.args.width s colors in
    let plain = mapped_of c.args.mapping c.args.width pixels colors in
    let indices = c.in_ok-dithered_indices.field-0.items in
    let rows = rows-of c plain refl refl refl in
    let same : (pixel : ℕ) → pixel < length pixels / 4 → IsOpaque pixels pixel
    → color_at s pixel ≡ color_at pixels pixel =
    λ pixel l light. grind (arith, nat_tests, chosen-own) in
    let kept : AreHeld m = λ pixel l light. grind (arith, nat_tests) in
    let own = tolerance-held strength colors s kept in
    let exact : tolerance_of dither c.args.mapping.tolerance colors s ≡ 0 =
    grind (arith, is, none, own) in
    let three : All (λ p. length p ≡ 3) colors =
    λ k e l. grind (arith, nat_tests, get_or_default, colors) in
    AreIndices-source pixels s colors indices of same
    (AreIndices-exact m indices
    (grind (arith, nat_tests, c.args.width, AreRowsOf-source))
    (grind (arith, nat_tests, c.type_inv.pixels, bytes-source))
    kept exact (subst (λ (d : Dither). HaveIndices d m indices) is (grind (
      arith,
      nat_tests,
    ))))

pub returns-clause-summed : goal.returns-clause-summed
returns-clause-summed c = λ off.
    let have = undithered-of c off in
    let all : All IsColor c.args.colors.now =
    λ k e l. grind (arith, nat_tests, get_or_default, c.color_bytes.ensures) in
    chosen-bound (undithered_of (source-of c) have.0 c.in_ok-dithered_indices.field-0.items) have.2
    have.1 (source-rows c).rows.some
    (bytes-source c.args.mapping c.args.colors.now c.args.pixels.now
    (λ j. omega (arith, c.type_inv.pixels j))) all
