-- Palette indices of all kinds of dithering: one for each pixel, and each that of an entry.
use Rattle.std.proofs.Common.{◌≡◌, ℕ, ◌<◌, List, length, refl, arith}
use Rattle.std.{proofs.lemmas.Bool.Decides.nat_tests, specs.Prelude.{◌/◌, slice_index}}
use Rattle.sixel_palette.proofs.mapped_images.DitheredIndices.{AreDiffused-none, AreRowsOf}
use Rattle.sixel_palette.proofs.mapped_images.DitheredIndices.{visit-inside}
use Rattle.sixel_palette.proofs.mapped_images.MovedPixels.{moved-alpha, moved-length}
use Rattle.sixel_palette.proofs.mapped_images.Serpentine.{serpentine-serpentine}
use Rattle.sixel_palette.proofs.mapped_images.UnditheredLaws.{AreChosen-none, chosen-below}
use Rattle.sixel_palette.specs.Dithering.{HaveChoice, HaveIndices, Mapped, moved_image}
use Rattle.sixel_palette.specs.Dithering.{pattern_of, serpentine, undithered_of}
use Rattle.sixel_palette.{specs.Palette.{AreIndices, IsOpaque}, specs.declared.dither.Dither.Dither}
use Rattle.sixel_palette.specs.declared.dither.Dither.TheVariants.{Diffusion, Off, Ordered}

pub have-count : (dither : Dither) (m : Mapped) (indices : List ℕ) → HaveIndices dither m indices
    → length indices ≡ length m.pixels / 4
have-count Off m indices have = have.2.one_each
have-count (Ordered amplitude) m indices have =
    let pattern = pattern_of amplitude m.colors m.pixels in
    omega (arith, have.2.one_each, moved-length pattern m.width m.pixels)
have-count (Diffusion strength) m indices have = have.one_each

pub have-entry : (dither : Dither) (m : Mapped) (indices : List ℕ) (pixel : ℕ)
    → AreRowsOf m.pixels m.width → HaveIndices dither m indices → pixel < length m.pixels / 4
    → IsOpaque m.pixels pixel → slice_index indices pixel < length m.colors
have-entry Off m indices pixel rows have inside light =
    chosen-below (undithered_of m have.0 indices) have.2 have.1 rows.some pixel inside light
have-entry (Ordered amplitude) m indices pixel rows have inside light =
    let pattern = pattern_of amplitude m.colors m.pixels in
    chosen-below (undithered_of (moved_image m pattern) have.0 indices) have.2 have.1 rows.some
    pixel
    (omega (arith, moved-length pattern m.width m.pixels, inside))
    (omega (arith, moved-alpha pattern m.width m.pixels pixel inside, light))
have-entry (Diffusion strength) m indices pixel rows have inside light =
    let back = serpentine-serpentine m.width pixel rows.some in
    let has = have.each (serpentine m.width pixel) (visit-inside m pixel rows inside) in
    rw back at (has.opaque (rw back light)).entry

-- without an entry no pixel is opaque
choice-none : (m : Mapped) (indices : List ℕ) → 0 < m.width → length m.colors ≡ 0
    → AreIndices m.pixels m.colors indices → HaveChoice m indices
choice-none m indices some none are =
    (indices, are, AreChosen-none (undithered_of m indices indices) some none are refl)

pub have-none : (dither : Dither) (m : Mapped) (indices : List ℕ) → AreRowsOf m.pixels m.width
    → length m.colors ≡ 0 → AreIndices m.pixels m.colors indices → HaveIndices dither m indices
have-none Off m indices rows none are = choice-none m indices rows.some none are
have-none (Ordered amplitude) m indices rows none are =
    let pattern = pattern_of amplitude m.colors m.pixels in
    let length = moved-length pattern m.width m.pixels in
    let alpha = moved-alpha pattern m.width m.pixels in
    choice-none (moved_image m pattern) indices rows.some none
    (grind (arith, nat_tests, length, alpha))
have-none (Diffusion strength) m indices rows none are = AreDiffused-none m indices rows none are
