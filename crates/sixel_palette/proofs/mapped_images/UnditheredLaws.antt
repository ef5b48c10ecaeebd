-- What follows for indices without dithering: they are entries, the nearest ones at no price, and
-- the summed error is bounded.
use Rattle.std.proofs.Common.{◌≡◌, ℕ, ◌+◌, ◌*◌, ◌<◌, ◌≤◌, arith, length, inl, inr, ap, ◌∙◌, []}
use Rattle.std.specs.Prelude.{◌/◌, ◌%◌, All, None, Option, Some, slice_index}
use Rattle.std.proofs.lemmas.{Bool.cases_lt, Bool.Decides.nat_tests, List.get_or_past}
use Rattle.std.proofs.lemmas.Nat.{div-add-mod', mod_below, mul-le}
use Rattle.sixel_palette.specs.{Dithering.{index_error, pixel_index_error}, Palette.AreIndices}
use Rattle.sixel_palette.specs.Palette.{IsOpaque, color_at, entry_distance, nearest}
use Rattle.sixel_palette.specs.Refined.{opaque_number, opaque_pixels, summed_error}
use Rattle.sixel_palette.specs.Undithered.{AreChosen, IsChosen, Undithered, cheaper, cheapest, cost}
use Rattle.sixel_palette.specs.Undithered.{entry_above, entry_after, entry_before, lacking}
use Rattle.sixel_palette.specs.Undithered.{pixel_of}
use Rattle.sixel_palette.specs.inside.Mapped.{AreEntries}
use Rattle.sixel_palette.proofs.colors.{Colors.{IsColor, distance-lt}, Shown.IsColor-color_at}
use Rattle.sixel_palette.proofs.mapped_images.KeptEntries.{nearest-distance}
use Rattle.sixel_palette.proofs.mapped_images.PaletteError.{number-light, sum_to-more_le}
use Rattle.sixel_palette.proofs.mapped_images.Undithered.{cheapest-free}

-- ---- entries of the palette

-- the cheaper one of two costs at most the first, and so much as two columns lack it
cheaper-le : (u : Undithered) (column row first : ℕ) (second : Option ℕ)
    → cost u column row (cheaper u column row first second) ≤ cost u column row first
cheaper-le u column row first None = omega arith
cheaper-le u column row first (Some second) = grind (arith, nat_tests)

cheapest-le : (u : Undithered) (column row : ℕ)
    → cost u column row (cheapest u column row)
    ≤ cost u column row (slice_index u.nearest (pixel_of u column row))
cheapest-le u column row =
    let own = slice_index u.nearest (pixel_of u column row) in
    let left = cheaper u column row own (entry_before u column row) in
    let upper = cheaper u column row left (entry_above u column row) in
    omega (
      arith,
      cheaper-le u column row own (entry_before u column row),
      cheaper-le u column row left (entry_above u column row),
      cheaper-le u column row upper (entry_after u column row),
    )

lacking-le : (u : Undithered) (column row entry : ℕ)
    → u.price * lacking u column row entry ≤ 2 * u.price
lacking-le u column row entry =
    let few : lacking u column row entry ≤ 2 = grind (arith, nat_tests) in
    omega (arith, mul-le u.price (lacking u column row entry) u.price 2 (omega arith) few)

module _ (u : Undithered) (are : AreChosen u) (near : AreIndices u.pixels u.colors u.nearest) where
  module _ (wide : 0 < u.width) where
    -- each pixel is visited
    chosen-pixel : (pixel : ℕ) → pixel < length u.pixels / 4
        → IsChosen u (pixel % u.width) (pixel / u.width)
        × (pixel_of u (pixel % u.width) (pixel / u.width) ≡ pixel)
    chosen-pixel pixel inside =
        let place = div-add-mod' pixel u.width in (
          are.each (pixel % u.width) (pixel / u.width) (mod_below pixel u.width wide)
              (omega (arith, place, inside)),
          place,
        )

    pub chosen-below : (pixel : ℕ) → pixel < length u.pixels / 4 → IsOpaque u.pixels pixel
        → slice_index u.chosen pixel < length u.colors
    chosen-below pixel inside light =
        let (is, place) = chosen-pixel pixel inside in
        grind (arith, nat_tests, is.entry)

    -- each index is that of an entry
    AreEntries-chosen : 0 < length u.colors → AreEntries u.colors u.chosen
    AreEntries-chosen some k =
        elim (cases_lt k (length u.pixels / 4)) [
          | inr past ↦ grind (arith, nat_tests, get_or_past, are.one_each)
          | inl inside ↦
              elim (cases_lt (slice_index u.pixels (4 * k + 3)) 128) [
                | inr light ↦ chosen-below k inside light
                | inl dark ↦
                    let (is, place) = chosen-pixel k inside in
                    grind (arith, nat_tests, is.hidden)
              ]
        ]

    -- ---- the nearest entries

    -- at no price each pixel has its nearest entry
    pub AreIndices-chosen : 0 < length u.colors → u.price ≡ 0
        → AreIndices u.pixels u.colors u.chosen
    AreIndices-chosen some free = record {
      one_each = are.one_each;
      opaque = λ pixel inside light.
          let (is, place) = chosen-pixel pixel inside in
          let own =
          cheapest-free u (pixel % u.width) (pixel / u.width) near (AreEntries-chosen some) in
          let nearest = near.opaque pixel inside light in
          grind (arith, nat_tests, is.opaque);
      hidden = λ pixel inside dark.
          let (is, place) = chosen-pixel pixel inside in
          grind (arith, nat_tests, is.hidden);
    }

    -- ---- the error

    -- an entry is farther than the nearest one by the price at most
    chosen-near : (pixel : ℕ) → pixel < length u.pixels / 4 → IsOpaque u.pixels pixel
        → entry_distance u.colors (color_at u.pixels pixel) (slice_index u.chosen pixel)
        ≤ entry_distance u.colors (color_at u.pixels pixel) (slice_index u.nearest pixel) + u.price
    chosen-near pixel inside light =
        let (is, place) = chosen-pixel pixel inside in
        let x = pixel % u.width in
        let y = pixel / u.width in
        let own = slice_index u.nearest pixel in
        let least = cheapest-le u x y in
        let few = lacking-le u x y own in
        grind (arith, nat_tests, is.opaque)

    pub chosen-bound : ((k : ℕ) → slice_index u.pixels k < 256) → All IsColor u.colors
        → index_error u.colors u.pixels u.chosen
        ≤ summed_error u.colors u.pixels + u.price * opaque_pixels u.pixels (λ _. 1)
    chosen-bound bytes all =
        sum_to-more_le (pixel_index_error u.colors u.pixels u.chosen)
        (opaque_number (nearest u.colors) u.pixels) (opaque_number (λ _. 1) u.pixels) u.price
        (length u.pixels / 4)
        (λ pixel inside.
        elim (cases_lt (slice_index u.pixels (4 * pixel + 3)) 128) [
          | inl dark ↦ grind (arith, nat_tests)
          | inr light ↦
              let c = color_at u.pixels pixel in
              let is = near.opaque pixel inside light in
              let least =
              nearest-distance u.colors c _ is
              (distance-lt _ _ (all _ [] is.entry) (IsColor-color_at _ pixel bytes)) in
              let lit = number-light (nearest u.colors) u.pixels pixel light in
              let one = ap (λ h. u.price * h) (number-light (λ _. 1) u.pixels pixel light) in
              let near = chosen-near pixel inside light in
              let own : pixel_index_error u.colors u.pixels u.chosen pixel
              ≡ entry_distance u.colors c (slice_index u.chosen pixel) = grind (arith, nat_tests) in
              omega (arith, own, near, least, lit, one)
        ])

-- without an entry no pixel is opaque
pub AreChosen-none : (u : Undithered) → 0 < u.width → length u.colors ≡ 0
    → AreIndices u.pixels u.colors u.nearest → u.chosen ≡ u.nearest → AreChosen u
AreChosen-none u wide none are same = grind (arith, nat_tests)

-- at no price the nearest entries are chosen
pub AreChosen-free : (u : Undithered) → AreEntries u.colors u.nearest → u.price ≡ 0
    → AreIndices u.pixels u.colors u.nearest → u.chosen ≡ u.nearest → AreChosen u
AreChosen-free u entries free are same = record {
  one_each = ap length same ∙ are.one_each;
  each = λ column row across inside.
      let own = cheapest-free u column row are in
      let hidden = are.hidden (pixel_of u column row) inside in
      let entry = entries (pixel_of u column row) in
      grind (arith, nat_tests);
}
