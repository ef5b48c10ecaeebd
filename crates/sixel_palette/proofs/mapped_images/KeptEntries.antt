-- Entries of neighbors: the nearer one of two, and the index of a pixel that may keep it.
use Rattle.std.proofs.Common.{◌≡◌, ℕ, ◌+◌, ◌-◌, ◌*◌, ◌<◌, ◌≤◌, List, false, cond, length, ap, subst}
use Rattle.std.proofs.Common.{◌∙◌, arith, nat_le, get_or}
use Rattle.std.specs.Prelude.{◌/◌, ◌%◌, ◌==◌, Option, Some, None, slice_index}
use Rattle.std.proofs.lemmas.{Bool.{cases_eq, cases_lt}, Bool.Decides.nat_tests, Grind.common_steps}
use Rattle.std.proofs.lemmas.Nat.{div-add-mod', div-mul-add, mod-mul-add, mod_below, mul-le}
use Rattle.sixel_palette.specs.Dithering.{IsIndex, Mapped, column_of_step, entry_above}
use Rattle.sixel_palette.specs.Dithering.{entry_before, neighbor_of, serpentine}
use Rattle.sixel_palette.specs.Palette.{IsNearest, entry_distance, entry_of, nearest, no_entry}
use Rattle.sixel_palette.proofs.nearest_entries.Nearest.{nearest-le, nearest-reached}
use Rattle.sixel_palette.specs.declared.dithering.mapped.Kept.{Kept}
use Rattle.sixel_palette.specs.inside.Mapped.{AreEntries, IsInside, IsKept, kept_value, no_distance}
use Rattle.sixel_palette.proofs.mapped_images.Serpentine.{column-lt, serpentine-lt}
use Rattle.sixel_palette.proofs.mapped_images.Serpentine.{serpentine-serpentine, serpentine-step}

pub entry_of-opaque : (pixels indices : List ℕ) (pixel : ℕ) → 128 ≤ get_or pixels (4 * pixel + 3) 0
    → entry_of pixels indices pixel ≡ Some (get_or indices pixel 0)
entry_of-opaque pixels indices pixel h = grind (arith, nat_tests)

pub entry_of-transparent : (pixels indices : List ℕ) (pixel : ℕ)
    → get_or pixels (4 * pixel + 3) 0 < 128 → entry_of pixels indices pixel ≡ None
entry_of-transparent pixels indices pixel h = grind (arith, nat_tests)

-- ---- of two entries the nearer one

-- an entry with its distance may be kept
pub IsKept-value : (m : Mapped) (c : List ℕ) (neighbor : Option ℕ) → IsInside m.colors c neighbor
    → IsKept m c neighbor (kept_value m.colors c neighbor)
IsKept-value m c x2 inside = grind (arith, nat_tests)

-- so the nearer one may be kept
pub IsKept-nearer : (m : Mapped) (c : List ℕ) (neighbor : Option ℕ) (x y kept : Kept)
    → (y.squared < x.squared → IsKept m c neighbor y)
    → (x.squared ≤ y.squared → IsKept m c neighbor x) → (y.squared < x.squared → kept ≡ y)
    → (x.squared ≤ y.squared → kept ≡ x) → IsKept m c neighbor kept
IsKept-nearer m c neighbor x y kept above before second first = grind (arith, nat_tests, cases_lt)

-- one that is nearer than the tolerance is kept
pub IsIndex-near : (m : Mapped) (c : List ℕ) (neighbor : Option ℕ) (kept : Kept)
    → IsKept m c neighbor kept → kept.squared < m.tolerance → kept.squared < no_distance
    → IsIndex m c neighbor kept.index
IsIndex-near m c neighbor kept is near some = grind (arith, nat_tests)

-- ---- entries of the palette

pub neighbor-inside : (m : Mapped) (c indices : List ℕ) (n : ℕ) → AreEntries m.colors indices
    → (entry : ℕ) → neighbor_of m c indices n ≡ Some entry → entry < length m.colors
neighbor-inside m c indices n are = grind (arith, nat_tests)

-- ---- the index

-- the nearest entry is at the distance of the nearest one
pub nearest-distance : (colors : List (List ℕ)) (c : List ℕ) (i : ℕ) → IsNearest colors c i
    → entry_distance colors c i < no_entry → entry_distance colors c i ≡ nearest colors c
nearest-distance colors c i is small = grind (arith, common_steps, nearest-le, nearest-reached)

-- and where no entry may be farther
pub IsIndex-exact : (m : Mapped) (c : List ℕ) (neighbor : Option ℕ) (index : ℕ)
    → m.tolerance ≡ 0
    → ((entry : ℕ) → neighbor ≡ Some entry → entry < length m.colors)
    → IsNearest m.colors c index → IsIndex m c neighbor index
IsIndex-exact m c neighbor index none inside near = grind (arith, nat_tests, nearest-le)

-- the index is the only one
pub IsIndex-same : (m : Mapped) (c : List ℕ) (neighbor : Option ℕ) (i j : ℕ)
    → IsIndex m c neighbor i → IsIndex m c neighbor j → i ≡ j
IsIndex-same m c neighbor i j first second = grind (arith, nat_tests)

-- ---- the neighbors of a step

-- the first step of a row has none before it
pub before-none : (m : Mapped) (indices : List ℕ) (row step : ℕ) → step < m.width → step ≡ 0
    → entry_before m indices (row * m.width + step) ≡ None
before-none m indices row step l first = grind (arith, nat_tests, mod-mul-add)

-- another one has that of the step before
pub before-some : (m : Mapped) (indices : List ℕ) (row step : ℕ) → step < m.width → 0 < step
    → entry_before m indices (row * m.width + step)
    ≡ entry_of m.pixels indices (row * m.width + column_of_step m.width row (step - 1))
before-some m indices row step l later =
    let test : (row * m.width + step) % m.width == 0 ≡ false = grind (arith, nat_tests) in
    let back : row * m.width + step - 1 ≡ row * m.width + (step - 1) = omega arith in
    ap
    (λ t. cond t None
    (entry_of m.pixels indices (serpentine m.width (row * m.width + step - 1))))
    test
    ∙ ap (entry_of m.pixels indices)
    (ap (serpentine m.width) back ∙ serpentine-step m.width row (step - 1) (omega arith))

-- the first row of a band has none above it
pub above-none : (m : Mapped) (indices : List ℕ) (row step : ℕ) → step < m.width → row % 6 ≡ 0
    → entry_above m indices (row * m.width + step) ≡ None
above-none m indices row step l first = grind (arith, nat_tests, div-mul-add)

-- another one has that of the row above
pub above-some : (m : Mapped) (indices : List ℕ) (row step : ℕ) → step < m.width → 0 < row % 6
    → entry_above m indices (row * m.width + step)
    ≡ entry_of m.pixels indices (serpentine m.width (row * m.width + step) - m.width)
above-some m indices row step l later = grind (arith, nat_tests)

-- ---- earlier visits

-- the indices of the first n visits are the same
abbrev pub AreSame : ℕ → List ℕ → List ℕ → ℕ → Type 0
AreSame width a b n =
    (k : ℕ) → k < n
    → slice_index b (serpentine width k) ≡ slice_index a (serpentine width k)

-- the pixel above is visited before
pub above-lt : (width n : ℕ) → 0 < width → 0 < n / width
    → serpentine width (serpentine width n - width) < n
above-lt width n some below =
    grind (arith, nat_tests, column-lt, mod_below, mul-le, serpentine-lt, div-add-mod')

-- the entry of a pixel that is visited before is the same
entry_of-same : (pixels a b : List ℕ) (width n pixel : ℕ) → 0 < width → AreSame width a b n
    → serpentine width pixel < n → entry_of pixels b pixel ≡ entry_of pixels a pixel
entry_of-same pixels a b width n pixel some same l =
    ap (λ i. cond (nat_le 128 (slice_index pixels (4 * pixel + 3))) (Some i) None)
    (subst (λ (p : ℕ). slice_index b p ≡ slice_index a p)
    (serpentine-serpentine width pixel some) (same (serpentine width pixel) l))

-- so the entry that may be kept is the same
pub neighbor-same : (m : Mapped) (c a b : List ℕ) (n : ℕ) → 0 < m.width
    → AreSame m.width a b n → neighbor_of m c b n ≡ neighbor_of m c a n
neighbor-same m c a b n some same = grind (arith, nat_tests, before, above)
  where
    before : entry_before m b n ≡ entry_before m a n
    before = grind (arith, nat_tests, cases_eq, entry_of-same, serpentine-serpentine)

    above : entry_above m b n ≡ entry_above m a n
    above =
        let lower = above-lt m.width n some in
        let kept =
        entry_of-same m.pixels a b m.width n (serpentine m.width n - m.width) some same in
        grind (arith, nat_tests)
