-- Images that show the same have the same indices at their opaque pixels, so one drawing.
use Rattle.std.proofs.Common.{◌≡◌, ℕ, zero, suc, ◌+◌, ◌*◌, ◌<◌, ◌≤◌, List, length, refl, ap, sym}
use Rattle.std.proofs.Common.{subst, arith, inl, inr, ◌∙◌, ◌/◌, ◌%◌, None, slice_index}
use Rattle.std.specs.Prelude.{Option}
use Rattle.std.proofs.lemmas.{Bool.cases_lt, Bool.Decides.nat_tests, List.ext_get_or}
use Rattle.std.proofs.lemmas.{List.FromFn.length-map-range_with_len, Nat.{div-add-mod', mod_below}}
use Rattle.sixel_palette.specs.Dithering.{AreDiffused, AreDithered, AreVisited, HasTarget}
use Rattle.sixel_palette.specs.Dithering.{HaveChoice, HaveIndices, HaveTargets, IsIndex, Mapped}
use Rattle.sixel_palette.specs.Dithering.{errors_of, mapped_of, moved_image, pattern_of}
use Rattle.sixel_palette.specs.Dithering.{serpentine, target_of_visit, tolerance_of, undithered_of}
use Rattle.sixel_palette.specs.{Dithering.with_pixels, Gray.source_pixels, Pattern.moved_pixels}
use Rattle.sixel_palette.specs.Palette.{IsOpaque, entry_of}
use Rattle.sixel_palette.specs.Refined.{opaque_pixels}
use Rattle.sixel_palette.specs.declared.{dither.Amplitude.Amplitude, dither.Dither.Dither}
use Rattle.sixel_palette.specs.declared.dither.Dither.TheVariants.{Diffusion, Off, Ordered}
use Rattle.sixel_palette.specs.declared.{mapping.Mapping.Mapping, mapping.Tolerance.Tolerance}
use Rattle.sixel_base.specs.Payload.{Image}
use Rattle.sixel_encoder.specs.{Encoding.shown_image, IndexedDrawing.{entries_of, indexed_drawing}}
use Rattle.sixel_palette.proofs.mapped_images.DitheredIndices.{AreRowsOf, visit-inside}
use Rattle.sixel_palette.proofs.mapped_images.GraySource.{AreRowsOf-source, IsSource-pixels}
use Rattle.sixel_palette.proofs.mapped_images.GraySource.{dithered-count, entry-source}
use Rattle.sixel_palette.proofs.mapped_images.GraySource.{source-alike}
use Rattle.sixel_palette.proofs.mapped_images.{KeptEntries.IsIndex-same, MovedPixels.moved-alike}
use Rattle.sixel_palette.proofs.mapped_images.{MovedPixels.moved-entry, PaletteError.number-dark}
use Rattle.sixel_palette.proofs.mapped_images.PaletteError.{number-light, sum_to-same}
use Rattle.sixel_palette.proofs.mapped_images.SameVisits.{neighbor-alike, AreSameOpaque, AreAlike}
use Rattle.sixel_palette.proofs.mapped_images.SameVisits.{entry-before, errors-alike, target-alike}
use Rattle.sixel_palette.proofs.mapped_images.UnditheredAlike.{AreChosen-alike, chosen-alike}
use Rattle.sixel_palette.proofs.mapped_images.UnditheredAlike.{indices-alike}
use Rattle.sixel_encoder.proofs.drawings.{IndexedText.get_or-entries, SameDrawing.AreAlike-images}

-- ---- all kinds

-- the targets of an opaque pixel's visit are the same
target-same : (m : Mapped) (q a b : List ℕ) (n : ℕ) → AreAlike m.pixels q
    → AreRowsOf m.pixels m.width → n < length m.pixels / 4 → AreSameOpaque m a b n
    → IsOpaque m.pixels (serpentine m.width n)
    → target_of_visit m (errors_of m a n) n
    ≡ target_of_visit (with_pixels m q) (errors_of (with_pixels m q) b n) n
target-same m q a b n alike rows l same light =
    grind (arith, nat_tests, target-alike, visit-inside, with_pixels, errors-alike)

-- an index does not depend on the pixels
IsIndex-other : (m : Mapped) (q c : List ℕ) (neighbor : Option ℕ) (index : ℕ)
    → IsIndex m c neighbor index → IsIndex (with_pixels m q) c neighbor index
IsIndex-other m q c neighbor index is = grind (arith, nat_tests)

-- the indices of a visit's pixel are the same, if both have their targets
index-alike : (m : Mapped) (q a b : List ℕ) (n : ℕ) → AreAlike m.pixels q
    → AreRowsOf m.pixels m.width → n < length m.pixels / 4 → AreSameOpaque m a b n
    → HasTarget m (target_of_visit m (errors_of m a n) n) a n
    → HasTarget (with_pixels m q)
    (target_of_visit (with_pixels m q) (errors_of (with_pixels m q) b n) n) b n
    → IsOpaque m.pixels (serpentine m.width n)
    → slice_index a (serpentine m.width n) ≡ slice_index b (serpentine m.width n)
index-alike m q a b n alike rows l same first second light =
    let there = alike.opaque (serpentine m.width n) (visit-inside m n rows l) light in
    let own = target_of_visit m (errors_of m a n) n in
    let target = target-same m q a b n alike rows l same light in
    let near = neighbor-alike m q own a b n alike rows l same in
    let is = IsIndex-other m q _ _ _ (first.opaque light) in
    IsIndex-same (with_pixels m q) _ _ _ _ (rw target at (rw near at is)) (second.opaque there.0)

-- so are those of all visits
same-opaque : (m : Mapped) (q a b : List ℕ) (n : ℕ) → AreAlike m.pixels q
    → AreRowsOf m.pixels m.width → n ≤ length m.pixels / 4 → AreVisited m a n
    → AreVisited (with_pixels m q) b n → AreSameOpaque m a b n
same-opaque m q a b zero alike rows most first second = λ k l. absurd (omega arith)
same-opaque m q a b (suc n) alike rows most first second = λ k l light.
    let before =
    same-opaque m q a b n alike rows (omega arith) (λ j lj. first j (omega arith))
    (λ j lj. second j (omega arith)) in
    let last = index-alike m q a b n alike rows (omega arith) before in
    elim (cases_lt k n) [
      | inl earlier ↦ before k earlier light
      | inr most ↦
          let one : k ≡ n = omega arith in
          rw one (last (first n (omega arith)) (second n (omega arith)) (rw one at light))
    ]

-- ---- the mapping

-- the sum of any number over the opaque pixels is the same
pub pixels-same : (p q : List ℕ) → AreAlike p q → (number : List ℕ → ℕ)
    → opaque_pixels p number ≡ opaque_pixels q number
pixels-same p q alike number = grind (arith, nat_tests, sum_to-same, number-dark, number-light)

-- so are the tolerance and the pattern
tolerance-alike : (dither : Dither) (tolerance : Tolerance) (colors : List (List ℕ)) (p q : List ℕ)
    → AreAlike p q → tolerance_of dither tolerance colors p ≡ tolerance_of dither tolerance colors q
tolerance-alike dither tolerance colors p q alike = grind (arith, nat_tests, pixels-same)

pattern-alike : (amplitude : Amplitude) (colors : List (List ℕ)) (p q : List ℕ) → AreAlike p q
    → pattern_of amplitude colors p ≡ pattern_of amplitude colors q
pattern-alike amplitude colors p q alike = grind (arith, nat_tests, pixels-same)

-- indices of error diffusion are those of the other pixels
other-diffused : (m : Mapped) (q a : List ℕ) → AreAlike m.pixels q → AreRowsOf m.pixels m.width
    → AreDiffused m a → AreDiffused (with_pixels m q) a
other-diffused m q a alike rows are = record {
  one_each = omega (arith, are.one_each, alike.count);
  each = λ n l.
      let here : n < length m.pixels / 4 = omega (arith, l, alike.count) in
      let at = serpentine m.width n in
      let inside = visit-inside m n rows here in
      let same : AreSameOpaque m a a n = λ k lk light. refl in
      let own = target_of_visit m (errors_of m a n) n in
      record {
        opaque = λ light.
            elim (cases_lt (slice_index m.pixels (4 * at + 3)) 128) [
              | inl dark ↦ absurd (omega (arith, alike.dark at inside dark, light))
              | inr lit ↦
                  let target = target-same m q a a n alike rows here same lit in
                  let near = neighbor-alike m q own a a n alike rows here same in
                  let is = IsIndex-other _ q _ _ _ ((are.each n here).opaque lit) in
                  rw target at (rw near at is)
            ];
        hidden = λ dark.
            elim (cases_lt (slice_index m.pixels (4 * at + 3)) 128) [
              | inl shade ↦ (are.each n here).hidden shade
              | inr lit ↦ absurd (omega (arith, (alike.opaque at inside lit).0, dark))
            ];
      };
}

-- so are those that are chosen
other-choice : (m : Mapped) (q a : List ℕ) → AreAlike m.pixels q → HaveChoice m a
    → HaveChoice (with_pixels m q) a
other-choice m q a alike have =
    let near = indices-alike m.pixels q m.colors have.0 alike have.1 in
    (have.0, near, AreChosen-alike (undithered_of m have.0 a) q alike have.1 near have.2)

HaveIndices-alike : (dither : Dither) (m : Mapped) (q a : List ℕ) → AreAlike m.pixels q
    → AreRowsOf m.pixels m.width → HaveIndices dither m a → HaveIndices dither (with_pixels m q) a
HaveIndices-alike Off m q a alike rows have = other-choice m q a alike have
HaveIndices-alike (Ordered amplitude) m q a alike rows have =
    let pattern = pattern_of amplitude m.colors m.pixels in
    rw (pattern-alike amplitude m.colors m.pixels q alike) at
    (other-choice (moved_image m pattern) (moved_pixels pattern m.width q) a
    (moved-alike pattern m.width m.pixels q alike) have)
HaveIndices-alike (Diffusion strength) m q a alike rows have = other-diffused m q a alike rows have

-- and the entries
choice-entry : (m : Mapped) (q a b : List ℕ) (pixel : ℕ) → AreAlike m.pixels q → 0 < m.width
    → HaveChoice m a → HaveChoice (with_pixels m q) b
    → entry_of m.pixels a pixel ≡ entry_of q b pixel
choice-entry m q a b pixel alike some first second =
    let place = div-add-mod' pixel m.width in
    rw place at
    (chosen-alike (undithered_of m first.0 a) q second.0 b alike first.1 second.1 first.2 second.2
    (suc (6 * (pixel % m.width) + pixel / m.width % 6)) (pixel % m.width) (pixel / m.width)
    (omega arith) (mod_below pixel m.width some))

have-alike : (dither : Dither) (m : Mapped) (q a b : List ℕ) (pixel : ℕ) → AreAlike m.pixels q
    → AreRowsOf m.pixels m.width → HaveIndices dither m a → HaveIndices dither (with_pixels m q) b
    → pixel < length m.pixels / 4 → entry_of m.pixels a pixel ≡ entry_of q b pixel
have-alike Off m q a b pixel alike rows first second l =
    choice-entry m q a b pixel alike rows.some first second
have-alike (Ordered amplitude) m q a b pixel alike rows first second l =
    let pattern = pattern_of amplitude m.colors m.pixels in
    let other = moved_pixels pattern m.width q in
    let also : HaveChoice (with_pixels m other) b =
    rw (pattern-alike amplitude m.colors m.pixels q alike) second in
    moved-entry pattern m.width m.pixels a pixel l
    ∙ (choice-entry (moved_image m pattern) other a b pixel
    (moved-alike pattern m.width m.pixels q alike) rows.some first also
    ∙ sym (moved-entry pattern m.width q b pixel (omega (arith, l, alike.count))))
have-alike (Diffusion strength) m q a b pixel alike rows first second l =
    let count = length m.pixels / 4 in
    entry-before m q a b count pixel alike rows.some l (same-opaque m q a b count alike rows
    (omega arith) first.each (λ k lk. second.each k (omega (arith, alike.count, lk))))
    (visit-inside m pixel rows l)

module _ (mapping : Mapping) (width : ℕ) (colors : List (List ℕ)) where
  -- so the images are mapped alike
  mapped-alike : (p q : List ℕ) → AreAlike p q
      → with_pixels (mapped_of mapping width p colors) q ≡ mapped_of mapping width q colors
  mapped-alike p q alike = grind (arith, tolerance-alike)

  -- so indices of the one are indices of the other
  HaveTargets-alike : (p q a : List ℕ) → AreAlike p q → AreRowsOf p width
      → HaveTargets mapping width p colors a → HaveTargets mapping width q colors a
  HaveTargets-alike p q a alike rows have =
      subst (λ (o : Mapped). HaveIndices mapping.dither o a) (mapped-alike p q alike)
      (HaveIndices-alike mapping.dither (mapped_of mapping width p colors) q a alike rows have)

  pub AreDithered-alike : (p q a : List ℕ) → AreAlike p q → AreRowsOf p width
      → AreDithered mapping width p colors a → AreDithered mapping width q colors a
  AreDithered-alike p q a alike rows are =
      let first = source_pixels mapping colors p in
      let second = source_pixels mapping colors q in
      HaveTargets-alike first second a (source-alike mapping colors p q alike)
      (AreRowsOf-source p first width (IsSource-pixels mapping colors p) rows) are

module _ (mapping : Mapping) (colors : List (List ℕ)) (a b : List ℕ) where
  -- so are the entries of all pixels
  entry-targets : (width : ℕ) (p q : List ℕ) (pixel : ℕ) → AreAlike p q → AreRowsOf p width
      → HaveTargets mapping width p colors a → HaveTargets mapping width q colors b
      → pixel < length p / 4 → entry_of p a pixel ≡ entry_of q b pixel
  entry-targets width p q pixel alike rows first second l =
      let also =
      subst (λ (o : Mapped). HaveIndices mapping.dither o b)
      (sym (mapped-alike mapping width colors p q alike)) second in
      have-alike mapping.dither (mapped_of mapping width p colors) q a b pixel alike rows first
      also l

  entry-alike : (width : ℕ) (p q : List ℕ) (pixel : ℕ) → AreAlike p q → AreRowsOf p width
      → AreDithered mapping width p colors a → AreDithered mapping width q colors b
      → pixel < length p / 4 → entry_of p a pixel ≡ entry_of q b pixel
  entry-alike width p q pixel alike rows first second l =
      let s = source_pixels mapping colors p in
      let t = source_pixels mapping colors q in
      let own = IsSource-pixels mapping colors p in
      let same = source-alike mapping colors p q alike in
      let both =
      entry-targets width s t pixel same (AreRowsOf-source p s width own rows) first second in
      grind (arith, nat_tests, entry-source, IsSource-pixels mapping colors q)

  -- and the drawings
  pub drawing-alike : (image other : Image) → shown_image image ≡ shown_image other
      → AreRowsOf image.pixels image.width → AreDithered mapping image.width image.pixels colors a
      → AreDithered mapping other.width other.pixels colors b
      → indexed_drawing image colors a ≡ indexed_drawing other colors b
  drawing-alike image other e rows first second =
      let alike = AreAlike-images image other e in
      let wide : other.width ≡ image.width = sym (ap (λ s. s.width) e) in
      let also = rw wide at second in
      let count = dithered-count mapping image.width image.pixels colors a first in
      let size = dithered-count mapping image.width other.pixels colors b also in
      let entries =
      ext_get_or None (entries_of image.pixels a) (entries_of other.pixels b)
      (grind (arith, nat_tests, length-map-range_with_len)) (λ pixel l.
      let own : pixel < length a = grind (arith, nat_tests, length-map-range_with_len) in
      let both = entry-alike image.width image.pixels other.pixels pixel alike rows first also in
      grind (arith, nat_tests, get_or-entries)) in
      grind (arith, nat_tests)
