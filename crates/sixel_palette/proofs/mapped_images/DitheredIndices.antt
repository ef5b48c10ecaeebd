-- Palette indices that are stored one after the other, and those of whole rows.
use Rattle.std.proofs.Common.{◌≡◌, ℕ, ◌+◌, ◌*◌, ◌<◌, List, length, set, sym, arith}
use Rattle.std.{specs.Prelude.{◌/◌, slice_index}, proofs.lemmas.Bool.Decides.nat_tests}
use Rattle.std.proofs.lemmas.List.{get_or_past, get_or-set_other, get_or-set_same}
use Rattle.sixel_palette.proofs.mapped_images.KeptEntries.{AreSame, IsIndex-exact, neighbor-inside}
use Rattle.sixel_palette.proofs.mapped_images.KeptEntries.{neighbor-same}
use Rattle.sixel_palette.proofs.mapped_images.Serpentine.{serpentine-apart, serpentine-serpentine}
use Rattle.sixel_palette.{proofs.nearest_entries.Nearest.nearest-le, specs.Dithering.AreDiffused}
use Rattle.sixel_palette.specs.Dithering.{HasTarget, IsIndex, Mapped, errors_of, neighbor_of}
use Rattle.sixel_palette.{specs.Dithering.{serpentine, target_of_visit}, specs.Palette.AreIndices}
use Rattle.sixel_palette.specs.Palette.{IsOpaque, color_at}
use Rattle.sixel_palette.specs.declared.dithering.mapped.MappedImage.{MappedImage}
use Rattle.sixel_palette.specs.inside.Mapped.{AreEntries, IsIndexAt, IsMappable, mapped_value}

-- ---- one more index

-- a visit whose pixel has its index keeps it with the indices up to its own
pub HasTarget-same : (m : Mapped) (target a b : List ℕ) (n : ℕ) → 0 < m.width
    → AreSame m.width a b (n + 1) → HasTarget m target a n → HasTarget m target b n
HasTarget-same m target a b n some same has =
    let kept = sym (neighbor-same m target a b n some (λ k l. same k (omega arith))) in
    grind (arith, nat_tests)

-- a visit whose index is stored has its index
pub HasTarget-set : (m : Mapped) (target indices : List ℕ) (n index : ℕ) → 0 < m.width
    → serpentine m.width n < length indices → IsIndexAt m target indices n index
    → HasTarget m target (set indices (serpentine m.width n) index) n
HasTarget-set m target indices n index some inside is =
    grind (arith, nat_tests, get_or-set_same, neighbor-same, get_or-set_other, serpentine-apart)

-- a transparent pixel has the index 0
pub IsIndexAt-dark : (m : Mapped) (target indices : List ℕ) (n : ℕ) → 0 < length m.colors
    → slice_index m.pixels (4 * serpentine m.width n + 3) < 128
    → IsIndexAt m target indices n 0
IsIndexAt-dark m target indices n some dark = grind (arith, nat_tests)

-- an opaque one that of its target
pub IsIndexAt-light : (m : Mapped) (target indices : List ℕ) (n index : ℕ)
    → IsOpaque m.pixels (serpentine m.width n)
    → IsIndex m target (neighbor_of m target indices n) index
    → IsIndexAt m target indices n index
IsIndexAt-light m target indices n index light is = grind (arith, nat_tests)

-- each index is that of an entry, if the stored one is
pub AreEntries-set : (colors : List (List ℕ)) (indices : List ℕ) (pixel index : ℕ)
    → pixel < length indices → AreEntries colors indices → index < length colors
    → AreEntries colors (set indices pixel index)
AreEntries-set colors indices pixel index inside are l =
    grind (arith, nat_tests, get_or-set_same, get_or-set_other)

-- ---- all indices

-- whole rows of pixels
pub record AreRowsOf (p : List ℕ) (width : ℕ) : Type 0 where
  pub some : 0 < width
  pub count : ℕ
  pub whole : length p / 4 ≡ count * width

-- those of an image that is mapped to some colors
pub record AreRows (m : Mapped) : Type 0 where
  pub rows : AreRowsOf m.pixels m.width
  pub some : 0 < length m.colors

pub AreRows-image : (image : MappedImage) → IsMappable image → AreRows (mapped_value image)
AreRows-image image is = grind (arith, nat_tests)

-- the pixel of a visit lies in the rows
pub visit-inside : (m : Mapped) (n : ℕ) → AreRowsOf m.pixels m.width → n < length m.pixels / 4
    → serpentine m.width n < length m.pixels / 4
visit-inside m n rows l = grind (arith, nat_tests)

pub AreEntries-indices : (m : Mapped) (indices : List ℕ) → AreRows m
    → AreIndices m.pixels m.colors indices → AreEntries m.colors indices
AreEntries-indices m indices rows are = grind (arith, nat_tests, get_or_past)

-- without a tolerance the nearest entries of the colors have the colors as targets
pub AreDiffused-exact : (m : Mapped) (indices : List ℕ) → AreRows m → m.tolerance ≡ 0
    → AreIndices m.pixels m.colors indices
    → ((n : ℕ) → n < length m.pixels / 4 → IsOpaque m.pixels (serpentine m.width n)
    → target_of_visit m (errors_of m indices n) n ≡ color_at m.pixels (serpentine m.width n))
    → AreDiffused m indices
AreDiffused-exact m indices rows none are same = record {
  one_each = are.one_each;
  each = λ n l.
      let pixel = serpentine m.width n in
      let target = target_of_visit m (errors_of m indices n) n in
      let inside = visit-inside m n rows.rows l in
      record {
        opaque = λ light.
            IsIndex-exact m target (neighbor_of m target indices n) (slice_index indices pixel) none
            (neighbor-inside m target indices n (AreEntries-indices m indices rows are))
            (rw (same n l light) (are.opaque pixel inside light));
        hidden = λ dark. are.hidden pixel inside dark;
      };
}

-- and the other way round, for any targets
pub AreIndices-targets : (m : Mapped) (target : ℕ → List ℕ) (indices : List ℕ) → AreRows m
    → m.tolerance ≡ 0 → length indices ≡ length m.pixels / 4
    → ((n : ℕ) → n < length m.pixels / 4 → HasTarget m (target n) indices n)
    → ((n : ℕ) → n < length m.pixels / 4 → IsOpaque m.pixels (serpentine m.width n)
    → target n ≡ color_at m.pixels (serpentine m.width n))
    → AreIndices m.pixels m.colors indices
AreIndices-targets m target indices rows none size each same = record {
  one_each = size;
  opaque = λ pixel l light.
      let back = serpentine-serpentine m.width pixel rows.rows.some in
      let inside = visit-inside m pixel rows.rows l in
      let has = each (serpentine m.width pixel) inside in
      let own = same (serpentine m.width pixel) inside in
      grind (arith, nat_tests, nearest-le);
  hidden = λ pixel l dark.
      let back = serpentine-serpentine m.width pixel rows.rows.some in
      let has = each (serpentine m.width pixel) (visit-inside m pixel rows.rows l) in
      grind (arith, nat_tests);
}

-- without an entry no pixel is opaque, so there is nothing to map
pub AreDiffused-none : (m : Mapped) (indices : List ℕ) → AreRowsOf m.pixels m.width
    → length m.colors ≡ 0 → AreIndices m.pixels m.colors indices → AreDiffused m indices
AreDiffused-none m indices rows none are = grind (arith, nat_tests, visit-inside)
