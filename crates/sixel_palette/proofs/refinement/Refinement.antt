-- A palette with refined entries is the refined palette, and each color has its nearest entry.
use Rattle.std.proofs.Common.{◌≡◌, ℕ, zero, suc, ◌+◌, ◌*◌, ◌/◌, ◌<◌, ◌≤◌, List, [], ◌∷◌, ◌++◌}
use Rattle.std.proofs.Common.{length, get_or, map, ap, sym, ◌∙◌, refl, arith, inl, inr}
use Rattle.std.proofs.lemmas.{Bool.cases_lt, List.{length-map, length_push}}
use Rattle.std.proofs.lemmas.Simd.{map-map}
use Rattle.std.specs.List.{All}
use Rattle.std.specs.declared.{alloc.Global.Global, vec.Vec.Vec}
use Rattle.sixel_palette.specs.declared.palette.refined.RefinedPalette.{RefinedPalette}
use Rattle.sixel_palette.specs.declared.palette.refined.Refinement.{Refinement}
use Rattle.sixel_palette.specs.Palette.{AreIndices, IsShown, color_at, nearest, no_entry}
use Rattle.sixel_palette.specs.Refined.{IsRefined, IsRegisterColor, base_entries, cut_entries}
use Rattle.sixel_palette.specs.Refined.{opaque_bins, opaque_pixels, register_color, summed_error}
use Rattle.sixel_palette.specs.Spread.{spread_entries}
use Rattle.sixel_palette.specs.inside.Codes.{AreShownCodes, IsListed, color_of}
use Rattle.sixel_palette.specs.inside.Nearest.{AreIndicesTo, IsIndex}
use Rattle.sixel_palette.specs.inside.Refinement.{HasEntries, IsRefinement}
use Rattle.sixel_palette.proofs.colors.Lists.{each_push}
use Rattle.sixel_palette.proofs.traversal.Choices.{members_from_codes, IsColor-shown}
use Rattle.sixel_palette.proofs.traversal.Farthest.{indices_nearest}
use Rattle.sixel_palette.proofs.refinement.{Counts.pixels_from_counts, Refined.nearest_entry-lt}
use Rattle.sixel_palette.proofs.refinement.{Refined.bound_of_shown, Tops.{near_listed, tops_alike}}
use Rattle.sixel_palette.proofs.refinement.Tops.{tops_fall, tops_none, tops_occur}

-- with an opaque pixel there is an entry
entries-below : (pixels codes : List ℕ) (entries : List (List ℕ))
    → ((k : ℕ) → get_or pixels k 0 < 256) → AreShownCodes pixels codes
    → (0 < length codes → 0 < length entries) → All IsRegisterColor entries
    → (c : List ℕ) → IsShown pixels c → nearest entries c < no_entry
entries-below pixels codes entries bytes are some register c m =
    let l = (are.shown c m).1 in
    nearest_entry-lt _ _ (some (omega (arith, l))) register (IsColor-shown _ _ bytes m)

-- each pixel has its index
indexed : (pixels codes color_indices : List ℕ) → AreShownCodes pixels codes → (pixel : ℕ)
    → pixel < length pixels / 4 → (index : ℕ) × IsIndex pixels codes color_indices pixel index
indexed pixels codes color_indices are pixel l =
    elim (cases_lt (get_or pixels (4 * pixel + 3) 0) 128) [
      | inl dark ↦
          (0, record { opaque = λ light. absurd (omega (arith, dark)); hidden = λ _. refl })
      | inr light ↦
          let (k, inside, same) = are.shown (color_at pixels pixel) (pixel, l, light, refl) in (
            get_or color_indices k 0,
            record {
              opaque = λ _. (k, inside, same, refl);
              hidden = λ dark. absurd (omega (arith, dark, light));
            },
          )
    ]

-- and so do the first n
first-indexed : (pixels codes color_indices : List ℕ) → AreShownCodes pixels codes → (n : ℕ)
    → n ≤ length pixels / 4 → (indices : List ℕ) × (length indices ≡ n)
    × AreIndicesTo pixels codes color_indices n indices
first-indexed pixels codes color_indices are zero l = ([], refl, λ k m. absurd (omega (arith, m)))
first-indexed pixels codes color_indices are (suc n) l =
    let (indices, size, before) =
    first-indexed pixels codes color_indices are n (omega arith) in
    let (index, own) = indexed pixels codes color_indices are n (omega arith) in (
      indices ++ index ∷ [],
      omega (arith, length_push indices index, size),
      λ k m.
          each_push (IsIndex pixels codes color_indices) indices index 0 n size before own k
          (omega (arith, m)),
    )

-- the error is that of all pixels
pub refinement-error : (pixels : List ℕ) (room amount : ℕ) (it : Refinement)
    → IsRefinement pixels room amount it
    → it.entries.error ≡ summed_error it.entries.colors.items pixels
refinement-error pixels room amount it is =
    is.entries.error ∙ is.counted.sums (nearest it.entries.colors.items)

module _ (pixels : List ℕ) (room amount : ℕ) (it : Refinement)
    (is : IsRefinement pixels room amount it) where
  pub refinement-below : (c : List ℕ) → IsShown pixels c
      → nearest it.entries.colors.items c < no_entry
  refinement-below =
      entries-below pixels it.colors.codes.items it.entries.colors.items is.bytes is.colors.codes
      (λ l. omega (arith, is.entries.size, is.entries.are.some l)) is.entries.shown

  -- with the palette indices of nearest entries, the entries before the spread are the refined
  -- palette
  pub refinement-palette : (palette : RefinedPalette) → HasEntries is.entries.refined palette
      → AreIndices pixels is.entries.refined.colors.items palette.indices.items
      → IsRefined pixels room palette
  refinement-palette palette has indices =
      let codes = it.colors.codes.items in
      let are = is.colors.codes in
      let made = is.entries.are in
      let refined = is.entries.refined in
      let colors = refined.colors.items in
      let initial = refined.initial.items in
      let weighed = λ (entries : List (List ℕ)). is.counted.sums (nearest entries) in
      let same_pixels =
      pixels_from_counts _ _ _ is.counted
      ∙ ap (opaque_bins pixels) (sym (length-map codes color_of)) in
      let shown = tops_alike _ _ are.listed are.shown _ _ _ _ made.top in
      let occur : All (IsShown pixels) refined.witnesses.items = tops_occur _ _ _ _ _ shown in
      let long = length-map codes color_of in
      record {
        shown = rw has.colors made.shown;
        few = rw has.colors made.few;
        members = map color_of codes;
        are = members_from_codes _ _ are.ascending are.shown are.listed;
        whole = λ l.
            let w = made.whole (omega (arith, l, long)) in
            let members = sym (map-map register_color color_of codes) in (
              has.initial ∙ w.0 ∙ members,
              has.colors
                  ∙ tops_none _ _ _ _ _
                  (λ d m.
                  rw w.1 (near_listed _ _ (IsColor-shown _ _ is.bytes m) (are.shown d m))) shown
                  ∙ w.1 ∙ members,
            );
        base = made.base;
        cut = λ l.
            let w = made.cut (omega (arith, l, long)) in (
              has.initial ∙ w.0 ∙ ap (λ p. cut_entries p room) same_pixels,
              w.1 ∙ ap (λ p. base_entries p room) same_pixels,
            );
        indices = rw has.colors indices;
        error = rw (has.colors, has.error) (made.error ∙ weighed colors);
        falls =
            rw (has.colors, has.initial) (omega (
              arith,
              weighed colors,
              weighed initial,
              tops_fall (IsListed codes) room made.base colors refined.witnesses.items codes
                  is.counts made.top,
              made.falls,
            ));
        initial_shown = rw has.initial made.initial_shown;
        initial_few = rw has.initial made.initial_few;
        top = rw (has.colors, has.witnesses) shown;
        witnesses = rw has.witnesses occur;
        apart = rw (has.witnesses, has.apart) made.apart;
        bound = rw (has.witnesses, has.apart) (λ n l.
            bound_of_shown _ _ _ _ made.apart.apart occur l);
      }

  -- there is such a palette beside any vector of as many indices, and its entries are spread
  pub refinement-some : (indices : Vec ℕ Global) → length indices.items ≡ length pixels / 4
      → (palette : RefinedPalette) × IsRefined pixels room palette
      × (it.entries.colors.items
      ≡ spread_entries amount (opaque_pixels pixels) palette.colors.items)
  refinement-some indices size =
      let refined = is.entries.refined in
      let made = is.entries.are in
      let codes = it.colors.codes.items in
      let (own, many, each) =
      first-indexed pixels codes refined.indices.items is.colors.codes (length pixels / 4)
      (omega arith) in
      let palette : RefinedPalette = record {
        colors = refined.colors;
        indices = record {
          ptr = indices.ptr;
          len = indices.len;
          cap = indices.cap;
          alloc = indices.alloc;
          items = own;
          ok = (indices.ok.0 ∙ size ∙ sym many, indices.ok.1);
          small = indices.small;
        };
        error = refined.error;
        initial = refined.initial;
        witnesses = refined.witnesses;
        apart = refined.apart;
      } in (
        palette,
        refinement-palette palette
            (record { colors = refl; error = refl; initial = refl; witnesses = refl; apart = refl })
            (indices_nearest _ _ _ _ _ _ made.nearest
            (entries-below pixels codes _ is.bytes is.colors.codes made.some made.shown) many
            each),
        is.entries.spread
            ∙ ap (λ p. spread_entries amount p.sum refined.colors.items)
            (pixels_from_counts _ _ _ is.counted),
      )
