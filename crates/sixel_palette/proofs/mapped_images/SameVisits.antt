-- Images that show the same: the neighbors, targets and errors of their visits are the same.
use Rattle.std.proofs.Common.{◌≡◌, ℕ, zero, suc, ◌+◌, ◌*◌, ◌<◌, ◌≤◌, List, length, get_or, refl, ap}
use Rattle.std.{proofs.Common.{◌∙◌, arith, inl, inr}, proofs.lemmas.Bool.{cases_eq, cases_lt}}
use Rattle.std.{proofs.lemmas.Bool.Decides.nat_tests, specs.Prelude.{◌/◌, ◌%◌, slice_index}}
use Rattle.sixel_palette.proofs.mapped_images.DiffusionVisit.{visit_error-opaque}
use Rattle.sixel_palette.proofs.mapped_images.DiffusionVisit.{visit_error-transparent}
use Rattle.sixel_palette.proofs.mapped_images.DitheredIndices.{AreRowsOf, visit-inside}
use Rattle.sixel_palette.proofs.mapped_images.KeptEntries.{above-lt, entry_of-opaque}
use Rattle.sixel_palette.proofs.mapped_images.KeptEntries.{entry_of-transparent}
use Rattle.sixel_palette.proofs.mapped_images.Serpentine.{serpentine-serpentine}
use Rattle.sixel_palette.specs.Dithering.{Mapped, entry_above, entry_before, errors_of}
use Rattle.sixel_palette.specs.Dithering.{nearer_entry, neighbor_of, opaque_error, serpentine}
use Rattle.sixel_palette.specs.Dithering.{sixteenths, target_of_visit, visit_error, with_pixels}
use Rattle.sixel_palette.specs.Palette.{IsOpaque, color_at, entry_of}

-- pixels that show the same
pub record AreAlike (p q : List ℕ) : Type 0 where
  pub count : length p / 4 ≡ length q / 4
  pub opaque : (pixel : ℕ) → pixel < length p / 4 → IsOpaque p pixel
      → IsOpaque q pixel × (color_at q pixel ≡ color_at p pixel)
  pub dark : (pixel : ℕ) → pixel < length p / 4 → slice_index p (4 * pixel + 3) < 128
      → slice_index q (4 * pixel + 3) < 128

-- ---- earlier visits

-- the opaque pixels of the first n visits have the same indices
abbrev pub AreSameOpaque : Mapped → List ℕ → List ℕ → ℕ → Type 0
AreSameOpaque m a b n =
    (k : ℕ) → k < n → IsOpaque m.pixels (serpentine m.width k)
    → slice_index a (serpentine m.width k) ≡ slice_index b (serpentine m.width k)

-- the entry of a pixel that is visited before is the same
pub entry-before : (m : Mapped) (q a b : List ℕ) (n pixel : ℕ) → AreAlike m.pixels q → 0 < m.width
    → pixel < length m.pixels / 4 → AreSameOpaque m a b n → serpentine m.width pixel < n
    → entry_of m.pixels a pixel ≡ entry_of q b pixel
entry-before m q a b n pixel alike some inside same l =
    let shade = cases_lt (get_or m.pixels (4 * pixel + 3) 0) 128 in
    let back = serpentine-serpentine m.width pixel in
    grind (arith, nat_tests, entry_of-transparent, entry_of-opaque)

-- so the entry that may be kept is the same
pub neighbor-alike : (m : Mapped) (q c a b : List ℕ) (n : ℕ) → AreAlike m.pixels q
    → AreRowsOf m.pixels m.width → n < length m.pixels / 4 → AreSameOpaque m a b n
    → neighbor_of m c a n ≡ neighbor_of (with_pixels m q) c b n
neighbor-alike m q c a b n alike rows l same =
    ap (λ first. nearer_entry m.colors c first (entry_above m a n)) before
    ∙ ap (nearer_entry m.colors c (entry_before (with_pixels m q) b n)) above
  where
    before : entry_before m a n ≡ entry_before (with_pixels m q) b n
    before =
        elim (cases_eq n 0) [
          | inl first ↦ grind (arith, nat_tests, entry_of)
          | inr later ↦
              grind (arith, nat_tests, visit-inside, serpentine-serpentine, entry-before, alike)
        ]

    above : entry_above m a n ≡ entry_above (with_pixels m q) b n
    above =
        elim (cases_eq (n / m.width % 6) 0) [
          | inl first ↦ grind (arith, nat_tests, entry_of)
          | inr later ↦ grind (arith, nat_tests, visit-inside, above-lt, entry-before, alike, same)
        ]

module _ (m : Mapped) (q : List ℕ) (errors : List (List ℕ)) (n : ℕ)
    (same : color_at q (serpentine m.width n) ≡ color_at m.pixels (serpentine m.width n)) where
  -- ---- error diffusion

  -- the sixteenths of a visit are the same where the errors before it are
  sixteenths-alike : (k : ℕ) → k < 3
      → sixteenths m errors n k ≡ sixteenths (with_pixels m q) errors n k
  sixteenths-alike k l = grind (arith, nat_tests)

  -- so are its target and its error
  pub target-alike : target_of_visit m errors n ≡ target_of_visit (with_pixels m q) errors n
  target-alike = grind (arith, nat_tests, with_pixels, sixteenths-alike)

  error-alike : (entry : List ℕ)
      → opaque_error m errors n entry ≡ opaque_error (with_pixels m q) errors n entry
  error-alike entry = grind (arith, nat_tests, entry, with_pixels, sixteenths-alike)

-- so is a visit's error, where those before it are
visit-alike : (m : Mapped) (q a b : List ℕ) (n : ℕ) → AreAlike m.pixels q
    → AreRowsOf m.pixels m.width → n < length m.pixels / 4
    → (IsOpaque m.pixels (serpentine m.width n)
    → slice_index a (serpentine m.width n) ≡ slice_index b (serpentine m.width n))
    → errors_of m a n ≡ errors_of (with_pixels m q) b n
    → visit_error m a (errors_of m a n) n
    ≡ visit_error (with_pixels m q) b (errors_of (with_pixels m q) b n) n
visit-alike m q a b n alike rows l same before =
    let inside = visit-inside m n in
    grind (arith, nat_tests, visit_error-transparent, with_pixels, visit_error-opaque, error-alike)

-- the errors are the same
pub errors-alike : (m : Mapped) (q a b : List ℕ) (n : ℕ) → AreAlike m.pixels q
    → AreRowsOf m.pixels m.width → n ≤ length m.pixels / 4 → AreSameOpaque m a b n
    → errors_of m a n ≡ errors_of (with_pixels m q) b n
unfolding errors_of
errors-alike m q a b zero alike rows most same = refl
errors-alike m q a b (suc n) alike rows most same =
    grind (arith, nat_tests, errors-alike m q a b n, visit-alike, with_pixels)
