-- Visits of undithered pixels: a choice depends on earlier ones only.
use Rattle.std.proofs.Common.{◌≡◌, ◌≢◌, ◌⊎◌, ℕ, zero, suc, ◌+◌, ◌-◌, ◌*◌, ◌<◌, ◌≤◌, List, arith}
use Rattle.std.proofs.Common.{refl, length, set, sym, inl, inr, ap, ◌∙◌}
use Rattle.std.specs.Prelude.{◌/◌, ◌%◌, None, Option, Some, slice_index}
use Rattle.std.proofs.lemmas.{Bool.{cases_eq, cases_lt}, Bool.Decides.nat_tests}
use Rattle.std.proofs.lemmas.{List.{get_or-set_other, get_or-set_same, length-set}, Nat.div-mul-add}
use Rattle.std.proofs.lemmas.Nat.{mod-mul-add, mul-le}
use Rattle.sixel_palette.specs.{Palette.{IsOpaque, color_at, entry_of}, Undithered.AreChosen}
use Rattle.sixel_palette.specs.Undithered.{IsChosen, Undithered, cheaper, cheapest, cost}
use Rattle.sixel_palette.specs.Undithered.{entry_above, entry_after, entry_before, has_entry}
use Rattle.sixel_palette.specs.Undithered.{lacking_after, lacking_before, pixel_of, top_of}
use Rattle.sixel_palette.specs.inside.Mapped.{AreEntries}
use Rattle.sixel_palette.proofs.mapped_images.DitheredIndices.{AreEntries-set}

-- other pixels, and other palette indices
abbrev pub with_entries : Undithered → List ℕ → List ℕ → List ℕ → Undithered
with_entries u pixels nearest chosen = record {
  width = u.width;
  pixels = pixels;
  colors = u.colors;
  price = u.price;
  nearest = nearest;
  chosen = chosen;
}

-- a column has an entry, if its pixels have the same ones
has_entry-same : (u v : Undithered) (a b : List ℕ) (entry pixel n : ℕ) → u.width ≡ v.width
    → ((k : ℕ) → k < n → entry_of u.pixels a (pixel + k * u.width)
    ≡ entry_of v.pixels b (pixel + k * u.width))
    → has_entry u a entry pixel n ≡ has_entry v b entry pixel n
unfolding has_entry
has_entry-same u v a b entry pixel zero wide same = refl
has_entry-same u v a b entry pixel (suc n) wide same =
    let start : pixel + 0 * u.width ≡ pixel = omega arith in
    let first = rw start at (same 0 (omega arith)) in
    let rest =
    has_entry-same u v a b entry (pixel + u.width) n wide (λ k l.
    let place : pixel + u.width + k * u.width ≡ pixel + (k + 1) * u.width = omega arith in
    rw place (same (k + 1) (omega (arith, l)))) in
    rw (first, rest, wide) refl

-- the pixel above
pub above-place : (width column row : ℕ) → 0 < row
    → row * width + column - width ≡ (row - 1) * width + column
above-place width column row below =
    let last : row ≡ row - 1 + 1 = omega (arith, below) in
    let whole : (row - 1 + 1) * width ≡ (row - 1) * width + width = omega arith in
    let place = ap (λ r. r * width) last ∙ whole in
    omega (arith, place)

-- the entries are the same that a visit depends on
pub record AreSameBefore (u v : Undithered) (column row : ℕ) : Type 0 where
  pub color : color_at u.pixels (pixel_of u column row) ≡ color_at v.pixels (pixel_of u column row)
  pub own : slice_index u.nearest (pixel_of u column row)
      ≡ slice_index v.nearest (pixel_of u column row)
  pub nearest : (pixel : ℕ) → entry_of u.pixels u.nearest pixel ≡ entry_of v.pixels v.nearest pixel
  pub chosen : (x y : ℕ) → x < u.width → y / 6 ≡ row / 6 → 6 * x + y % 6 < 6 * column + row % 6
      → entry_of u.pixels u.chosen (pixel_of u x y) ≡ entry_of v.pixels v.chosen (pixel_of u x y)

module _ (u : Undithered) (q n b : List ℕ) (column row : ℕ) (across : column < u.width)
    (same : AreSameBefore u (with_entries u q n b) column row) where
  abbrev v : Undithered
  v = with_entries u q n b

  before-same : entry_before u column row ≡ entry_before v column row
  before-same =
      elim (cases_eq column 0) [
        | inl first ↦ grind (arith, nat_tests)
        | inr later ↦
            let place : pixel_of u column row - 1 ≡ pixel_of u (column - 1) row = omega arith in
            let e = same.chosen (column - 1) row (omega arith) refl (omega arith) in
            grind (arith, nat_tests)
      ]

  above-same : entry_above u column row ≡ entry_above v column row
  above-same =
      elim (cases_eq (row % 6) 0) [
        | inl first ↦ grind (arith, nat_tests)
        | inr later ↦
            let place = above-place u.width column row (omega (arith, later)) in
            let e = same.chosen column (row - 1) across (omega arith) (omega arith) in
            grind (arith, nat_tests)
      ]

  after-same : entry_after u column row ≡ entry_after v column row
  after-same = grind (arith, nat_tests, same.nearest)

  lacking_before-same : (entry : ℕ)
      → lacking_before u column row entry ≡ lacking_before v column row entry
  lacking_before-same entry =
      elim (cases_eq column 0) [
        | inl first ↦ grind (arith, nat_tests)
        | inr later ↦
            let e =
            has_entry-same u v u.chosen b entry (top_of u column row - 1) 6 refl (λ k l.
            let place : top_of u column row - 1 + k * u.width
            ≡ pixel_of u (column - 1) (row / 6 * 6 + k) = omega arith in
            rw place
            (same.chosen (column - 1) (row / 6 * 6 + k) (omega arith) (omega arith)
            (omega arith))) in
            grind (arith, nat_tests)
      ]

  lacking_after-same : (entry : ℕ)
      → lacking_after u column row entry ≡ lacking_after v column row entry
  lacking_after-same entry =
      let e =
      has_entry-same u v u.nearest n entry (top_of u column row + 1) 6 refl (λ k l.
      same.nearest _) in
      grind (arith, nat_tests)

  cost-same : (entry : ℕ) → cost u column row entry ≡ cost v column row entry
  cost-same entry =
      rw (same.color, above-same, lacking_before-same entry, lacking_after-same entry) refl

  cheaper-same : (first : ℕ) (second : Option ℕ)
      → cheaper u column row first second ≡ cheaper v column row first second
  cheaper-same first None = refl
  cheaper-same first (Some second) = rw (cost-same first, cost-same second) refl

  -- so it is the same choice
  pub cheapest-same : cheapest u column row ≡ cheapest v column row
  cheapest-same =
      rw (
        same.own,
        before-same,
        above-same,
        after-same,
        cheaper-same _ _,
        cheaper-same _ _,
        cheaper-same _ _,
      ) refl

-- ---- one more visit

-- a pixel has one column and one row
pixel-place : (width x y column row : ℕ) → x < width → column < width
    → y * width + x ≡ row * width + column → (x ≡ column) × (y ≡ row)
pixel-place width x y column row l across same = (
  sym (mod-mul-add y width x l) ∙ ap (λ p. p % width) same
      ∙ mod-mul-add row width column across,
  sym (div-mul-add y width x l) ∙ ap (λ p. p / width) same
      ∙ div-mul-add row width column across,
)

-- earlier bands are visited, and the first pixels of a band
abbrev pub IsVisited : ℕ → ℕ → ℕ → ℕ → Type 0
IsVisited band n x y = (y / 6 < band) ⊎ ((y / 6 ≡ band) × (6 * x + y % 6 < n))

-- each of them has its entry
pub record AreVisited (u : Undithered) (band n : ℕ) : Type 0 where
  pub size : length u.chosen ≡ length u.pixels / 4
  pub entries : AreEntries u.colors u.chosen
  pub each : (x y : ℕ) → x < u.width → pixel_of u x y < length u.pixels / 4 → IsVisited band n x y
      → IsChosen u x y

-- so where the numbers are equal
pub AreVisited-equal : (u : Undithered) (band n other m : ℕ) → AreVisited u band n → band ≡ other
    → n ≡ m → AreVisited u other m
AreVisited-equal u band n other m are first second = rw (first, second) at are

-- visits that are visited too
pub AreVisited-less : (u : Undithered) (band n other m : ℕ) → AreVisited u band n
    → ((x y : ℕ) → x < u.width → pixel_of u x y < length u.pixels / 4 → IsVisited other m x y
    → IsVisited band n x y)
    → AreVisited u other m
AreVisited-less u band n other m are less = record {
  size = are.size;
  entries = are.entries;
  each = λ x y l inside is. are.each x y l inside (less x y l inside is);
}

module _ (u : Undithered) (column row index : ℕ) (across : column < u.width)
    (inside : pixel_of u column row < length u.pixels / 4) where
  abbrev after : Undithered
  after = with_entries u u.pixels u.nearest (set u.chosen (pixel_of u column row) index)

  -- visits up to this one do not depend on its entry
  same-before : (x y : ℕ) → x < u.width
      → (y / 6 ≡ row / 6 → 6 * x + y % 6 ≤ 6 * column + row % 6) → AreSameBefore u after x y
  same-before x y l earlier = record {
    color = refl;
    own = refl;
    nearest = λ pixel. refl;
    chosen = λ i j li band before.
        let apart : pixel_of u column row ≢ pixel_of u i j = λ same.
        let place = pixel-place u.width column row i j across li same in
        omega (arith, place.0, place.1, band, before, earlier (omega (arith, place.1, band))) in
        grind (arith, nat_tests, get_or-set_other);
  }

  -- an earlier visit keeps its entry
  chosen-before : (x y : ℕ) → x < u.width
      → (y / 6 ≡ row / 6 → 6 * x + y % 6 < 6 * column + row % 6) → IsChosen u x y
      → IsChosen after x y
  chosen-before x y l earlier is =
      let same =
      cheapest-same u u.pixels u.nearest after.chosen x y l
      (same-before x y l (λ band. omega (arith, earlier band))) in
      let apart : pixel_of u x y ≢ pixel_of u column row = λ e.
      let place = pixel-place u.width x y column row l across e in
      let band : y / 6 ≡ row / 6 = omega (arith, place.1) in
      omega (arith, place.0, place.1, earlier band) in
      let kept = get_or-set_other u.chosen (pixel_of u column row) (pixel_of u x y) index 0 apart in
      record {
        entry = λ light. omega (arith, kept, is.entry light);
        opaque = λ light. kept ∙ (is.opaque light ∙ same);
        hidden = λ dark. kept ∙ is.hidden dark;
      }

  -- so its entry is stored
  pub AreVisited-set : AreVisited u (row / 6) (6 * column + row % 6)
      → (IsOpaque u.pixels (pixel_of u column row) → index ≡ cheapest u column row)
      → (slice_index u.pixels (4 * pixel_of u column row + 3) < 128 → index ≡ 0)
      → index < length u.colors → AreVisited after (row / 6) (6 * column + row % 6 + 1)
  AreVisited-set are opaque hidden entry =
      let place = pixel_of u column row in
      let stored : place < length u.chosen = omega (arith, are.size, inside) in
      let new = get_or-set_same u.chosen place index 0 stored in
      let same =
      cheapest-same u u.pixels u.nearest after.chosen column row across
      (same-before column row across (λ band. omega arith)) in
      record {
        size = length-set u.chosen place index ∙ are.size;
        entries = AreEntries-set u.colors u.chosen place index stored are.entries entry;
        each = λ x y l within is.
            elim (cases_lt (6 * x + y % 6) (6 * column + row % 6)) [
              | inl less ↦
                  chosen-before x y l (λ band. less)
                  (are.each x y l within (grind (arith, is, less)))
              | inr most ↦
                  elim is [
                    | inl band ↦
                        chosen-before x y l (λ same. absurd (omega (arith, band, same)))
                        (are.each x y l within (inl band))
                    | inr last ↦
                        let i : x ≡ column = omega (arith, most, last.1) in
                        let j : y ≡ row = omega (arith, most, last.0, last.1) in
                        rw (i, j) (record {
                          entry = λ light. omega (arith, new, entry);
                          opaque = λ light. new ∙ (opaque light ∙ same);
                          hidden = λ dark. new ∙ hidden dark;
                        })
                  ]
            ];
      }

-- ---- the end of a column, of a band, and of the image

module _ (u : Undithered) (whole : length u.pixels / 4 ≡ length u.pixels / 4 / u.width * u.width)
  where
    -- the row of a pixel lies in the image
    row-below : (x y : ℕ) → pixel_of u x y < length u.pixels / 4
        → y < length u.pixels / 4 / u.width
    row-below x y inside =
        elim (cases_lt y (length u.pixels / 4 / u.width)) [
          | inl less ↦ less
          | inr most ↦
              let far =
              mul-le (length u.pixels / 4 / u.width) u.width y u.width most (omega arith) in
              absurd (omega (arith, far, whole, inside))
        ]

    pub AreVisited-column : (band column row : ℕ)
        → 6 * band + 6 ≤ row ⊎ length u.pixels / 4 / u.width ≤ row
        → AreVisited u band (6 * column + (row - 6 * band)) → AreVisited u band (6 * (column + 1))
    AreVisited-column band column row end are =
        AreVisited-less u band _ band _ are (λ x y l inside is.
        let lower = row-below x y inside in
        elim is [
          | inl early ↦ inl early
          | inr same ↦ inr (
            same.0,
            elim end [
              | inl whole ↦ omega (arith, same.0, same.1, whole)
              | inr last ↦ omega (arith, same.0, same.1, last, lower)
            ],
          )
        ])

    pub AreVisited-band : (band column : ℕ) → u.width ≤ column → AreVisited u band (6 * column)
        → AreVisited u (band + 1) 0
    AreVisited-band band column end are =
        AreVisited-less u band _ (band + 1) 0 are (λ x y l inside is.
        elim is [
          | inl early ↦
              elim (cases_lt (y / 6) band) [
                | inl before ↦ inl before
                | inr last ↦ inr (omega (arith, early, last), omega (arith, l, end))
              ]
          | inr same ↦ absurd (omega (arith, same.1))
        ])

    pub AreChosen-visited : (band : ℕ) → length u.pixels / 4 / u.width / 6 < band
        → AreVisited u band 0 → AreChosen u
    AreChosen-visited band end are = record {
      one_each = are.size;
      each = λ x y l inside.
          let lower = row-below x y inside in
          are.each x y l inside (inl (omega (arith, lower, end)));
    }
