-- Undithered entries: columns of a band, costs, and the cheapest entry.
use Rattle.std.proofs.Common.{◌≡◌, ℕ, zero, suc, ◌+◌, ◌-◌, ◌*◌, ◌<◌, ◌≤◌, List, true, false, arith}
use Rattle.std.{proofs.Common.{refl, length}, specs.Prelude.{◌/◌, None, Option, Some, slice_index}}
use Rattle.std.{proofs.lemmas.List.get_or_past, proofs.lemmas.Bool.Decides.nat_tests}
use Rattle.sixel_palette.specs.Palette.{AreIndices, IsNearest, IsOpaque, color_at, entry_of}
use Rattle.sixel_palette.specs.Undithered.{Undithered, cheaper, cheapest, entry_above, entry_after}
use Rattle.sixel_palette.specs.Undithered.{entry_before, has_entry, is_entry, lacking, pixel_of}
use Rattle.sixel_palette.specs.inside.Mapped.{AreEntries}

-- ---- columns of a band

-- past the image there is no entry
pub entry_of-past : (pixels indices : List ℕ) (pixel : ℕ) → length pixels / 4 ≤ pixel
    → entry_of pixels indices pixel ≡ None
entry_of-past pixels indices pixel past = grind (arith, nat_tests, get_or_past)

-- nor a pixel that has it
pub has_entry-past : (u : Undithered) (indices : List ℕ) (entry pixel n : ℕ)
    → length u.pixels / 4 ≤ pixel → has_entry u indices entry pixel n ≡ false
unfolding has_entry
has_entry-past u indices entry pixel zero past = refl
has_entry-past u indices entry pixel (suc n) past =
    let rest = has_entry-past u indices entry (pixel + u.width) n (omega (arith, past)) in
    grind (arith, nat_tests, entry_of-past)

-- a pixel that has the entry
pub has_entry-found : (u : Undithered) (indices : List ℕ) (entry pixel n : ℕ) → 0 < n
    → is_entry (entry_of u.pixels indices pixel) entry ≡ true
    → has_entry u indices entry pixel n ≡ true
unfolding has_entry
has_entry-found u indices entry pixel zero some found = absurd (omega (arith, some))
has_entry-found u indices entry pixel (suc n) some found = grind (arith, nat_tests)

-- and one that has another one or none
pub has_entry-more : (u : Undithered) (indices : List ℕ) (entry pixel n : ℕ) → 0 < n
    → is_entry (entry_of u.pixels indices pixel) entry ≡ false
    → has_entry u indices entry pixel n ≡ has_entry u indices entry (pixel + u.width) (n - 1)
unfolding has_entry
has_entry-more u indices entry pixel zero some other = absurd (omega (arith, some))
has_entry-more u indices entry pixel (suc n) some other = grind (arith, nat_tests)

pub has_entry-none : (u : Undithered) (indices : List ℕ) (entry pixel n : ℕ) → n ≡ 0
    → has_entry u indices entry pixel n ≡ false
unfolding has_entry
has_entry-none u indices entry pixel zero none = refl
has_entry-none u indices entry pixel (suc n) none = absurd (omega (arith, none))

-- ---- the cheapest entry

module _ (u : Undithered) (column row : ℕ) where
  -- an entry that costs its distance only is the cheapest one, if it is the nearest one
  cheaper-free : (own : ℕ) (second : Option ℕ)
      → IsNearest u.colors (color_at u.pixels (pixel_of u column row)) own
      → u.price * lacking u column row own ≡ 0
      → ((entry : ℕ) → second ≡ Some entry → entry < length u.colors)
      → cheaper u column row own second ≡ own
  cheaper-free own None is free inside = refl
  cheaper-free own (Some entry) is free inside =
      let least = is.least entry (inside entry refl) in
      grind (arith, nat_tests)

  pub cheapest-free : AreIndices u.pixels u.colors u.nearest → AreEntries u.colors u.chosen
      → pixel_of u column row < length u.pixels / 4 → IsOpaque u.pixels (pixel_of u column row)
      → u.price * lacking u column row (slice_index u.nearest (pixel_of u column row)) ≡ 0
      → cheapest u column row ≡ slice_index u.nearest (pixel_of u column row)
  cheapest-free are entries inside light free =
      let is = are.opaque (pixel_of u column row) inside light in
      let own = slice_index u.nearest (pixel_of u column row) in
      let left = cheaper-free own (entry_before u column row) is free (grind (arith, nat_tests)) in
      let upper = cheaper-free own (entry_above u column row) is free (grind (arith, nat_tests)) in
      let right = cheaper-free own (entry_after u column row) is free
      (grind (arith, nat_tests, entry_of-past)) in
      rw (left, upper, right) refl
