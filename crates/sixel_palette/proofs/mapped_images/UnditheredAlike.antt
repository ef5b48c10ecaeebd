-- Images that show the same: without dithering their opaque pixels have the same entries.
use Rattle.std.proofs.Common.{◌≡◌, ℕ, zero, suc, ◌+◌, ◌*◌, ◌<◌, List, arith, refl, length, inl, inr}
use Rattle.std.proofs.Common.{sym, ◌∙◌}
use Rattle.std.specs.Prelude.{◌/◌, ◌%◌, slice_index}
use Rattle.std.proofs.lemmas.{Bool.cases_lt, Bool.Decides.nat_tests}
use Rattle.sixel_palette.specs.Palette.{AreIndices, IsNearest, IsOpaque, entry_of}
use Rattle.sixel_palette.specs.Undithered.{AreChosen, Undithered, pixel_of}
use Rattle.sixel_palette.proofs.mapped_images.KeptEntries.{entry_of-opaque, entry_of-transparent}
use Rattle.sixel_palette.proofs.mapped_images.{SameVisits.AreAlike, Undithered.entry_of-past}
use Rattle.sixel_palette.proofs.mapped_images.UnditheredVisits.{AreSameBefore, cheapest-same}
use Rattle.sixel_palette.proofs.mapped_images.UnditheredVisits.{with_entries}

-- a color has one nearest entry
nearest-one : (entries : List (List ℕ)) (c : List ℕ) (i j : ℕ) → IsNearest entries c i
    → IsNearest entries c j → i ≡ j
nearest-one entries c i j first second =
    elim (cases_lt i j) [
      | inl less ↦ absurd (omega (arith, second.first i less, first.least j second.entry))
      | inr most ↦
          elim (cases_lt j i) [
            | inl less ↦ absurd (omega (arith, first.first j less, second.least i first.entry))
            | inr same ↦ omega (arith, most, same)
          ]
    ]

-- so indices of nearest entries are those of the other image
pub indices-alike : (p q : List ℕ) (entries : List (List ℕ)) (indices : List ℕ) → AreAlike p q
    → AreIndices p entries indices → AreIndices q entries indices
indices-alike p q entries indices alike are = grind (arith, nat_tests)

-- the entry of a pixel is the same, if the indices of opaque pixels are
entry-alike : (p q a b : List ℕ) (pixel : ℕ) → AreAlike p q
    → (pixel < length p / 4 → IsOpaque p pixel → slice_index a pixel ≡ slice_index b pixel)
    → entry_of p a pixel ≡ entry_of q b pixel
entry-alike p q a b pixel alike same =
    elim (cases_lt pixel (length p / 4)) [
      | inr past ↦
          entry_of-past p a pixel past
          ∙ sym (entry_of-past q b pixel (omega (arith, past, alike.count)))
      | inl inside ↦
          elim (cases_lt (slice_index p (4 * pixel + 3)) 128) [
            | inl dark ↦
                entry_of-transparent p a pixel dark
                ∙ sym (entry_of-transparent q b pixel (alike.dark pixel inside dark))
            | inr light ↦
                let e = same inside light in
                let lit = (alike.opaque pixel inside light).0 in
                grind (arith, nat_tests, entry_of-opaque)
          ]
    ]

module _ (u : Undithered) (q n b : List ℕ) (alike : AreAlike u.pixels q)
    (near : AreIndices u.pixels u.colors u.nearest) (other : AreIndices q u.colors n) where
  -- the nearest entries are the same
  nearest-alike : (pixel : ℕ) → pixel < length u.pixels / 4 → IsOpaque u.pixels pixel
      → slice_index u.nearest pixel ≡ slice_index n pixel
  nearest-alike pixel inside light =
      let there = alike.opaque pixel inside light in
      let second = other.opaque pixel (omega (arith, inside, alike.count)) there.0 in
      nearest-one u.colors _ _ _ (near.opaque pixel inside light) (rw there.1 at second)

  -- so is what a visit depends on, if earlier entries are
  before-alike : (x y : ℕ) → pixel_of u x y < length u.pixels / 4
      → IsOpaque u.pixels (pixel_of u x y)
      → ((i j : ℕ) → i < u.width → 6 * i + j % 6 < 6 * x + y % 6
      → entry_of u.pixels u.chosen (pixel_of u i j) ≡ entry_of q b (pixel_of u i j))
      → AreSameBefore u (with_entries u q n b) x y
  before-alike x y inside light earlier = record {
    color = sym (alike.opaque (pixel_of u x y) inside light).1;
    own = nearest-alike (pixel_of u x y) inside light;
    nearest = λ pixel.
        entry-alike u.pixels q u.nearest n pixel alike (nearest-alike pixel);
    chosen = λ i j l band less. earlier i j l less;
  }

  -- so all entries are the same
  pub chosen-alike : AreChosen u → AreChosen (with_entries u q n b) → (m x y : ℕ)
      → 6 * x + y % 6 < m → x < u.width
      → entry_of u.pixels u.chosen (pixel_of u x y) ≡ entry_of q b (pixel_of u x y)
  chosen-alike first second zero x y less l = absurd (omega (arith, less))
  chosen-alike first second (suc m) x y less l =
      entry-alike u.pixels q u.chosen b (pixel_of u x y) alike (λ inside light.
      let there = alike.opaque (pixel_of u x y) inside light in
      let same =
      cheapest-same u q n b x y l
      (before-alike x y inside light (λ i j li lower.
      chosen-alike first second m i j (omega (arith, less, lower)) li)) in
      (first.each x y l inside).opaque light
      ∙ (same
      ∙ sym ((second.each x y l (omega (arith, inside, alike.count))).opaque there.0)))

-- indices that are chosen for the one are chosen for the other
pub AreChosen-alike : (u : Undithered) (q : List ℕ) → AreAlike u.pixels q
    → AreIndices u.pixels u.colors u.nearest → AreIndices q u.colors u.nearest → AreChosen u
    → AreChosen (with_entries u q u.nearest u.chosen)
AreChosen-alike u q alike near other are = record {
  one_each = are.one_each ∙ alike.count;
  each = λ x y l within.
      let inside : pixel_of u x y < length u.pixels / 4 = omega (arith, within, alike.count) in
      let is = are.each x y l inside in
      elim (cases_lt (slice_index u.pixels (4 * pixel_of u x y + 3)) 128) [
        | inl dark ↦
            let there = alike.dark (pixel_of u x y) inside dark in
            grind (arith, nat_tests, is.hidden)
        | inr light ↦
            let there = alike.opaque (pixel_of u x y) inside light in
            let same =
            cheapest-same u q u.nearest u.chosen x y l
            (before-alike u q u.nearest u.chosen alike near other x y inside light
            (λ i j li lower. entry-alike u.pixels q u.chosen u.chosen (pixel_of u i j) alike
            (λ _ _. refl))) in
            record {
              entry = λ _. is.entry light;
              opaque = λ _. is.opaque light ∙ same;
              hidden = λ dark. absurd (omega (arith, there.0, dark));
            }
      ];
}
