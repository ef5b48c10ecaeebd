-- From the distances of the colors to the farthest one, and from their palette indices to those of
-- the pixels.
use Rattle.std.proofs.Common.{◌≡◌, ℕ, ◌+◌, ◌/◌, ◌%◌, ◌<◌, ◌≤◌, List, [], length, get_or, refl, ap}
use Rattle.std.proofs.{Common.{◌∙◌, arith, set, sym}, lemmas.Bool.Decides.nat_tests}
use borrow.Author.Count.{below_more}
use Rattle.std.proofs.lemmas.List.{get_or_default, get_or-set_same, get_or-set_other}
use Rattle.std.specs.{List.Contains, List.Sorted.IsStrictlyIncreasing}
use Rattle.sixel_palette.specs.declared.palette.nearest_entry.NearestEntry.{NearestEntry}
use Rattle.sixel_palette.specs.Palette.{AreIndices, nearest, rank, color_at, IsShown, IsFarthest}
use Rattle.sixel_palette.specs.{Palette.{IsNearest, no_entry}, inside.Buckets.IsFirstGreatest}
use Rattle.sixel_palette.specs.inside.{Codes.{IsListed, IsPixelWord, color_of}, Nearest.IsIndexOf}
use Rattle.sixel_palette.specs.inside.Nearest.{AreIndicesTo, AreNearest, IsIndex, IsNearestEntry}
use Rattle.sixel_palette.proofs.{colors.Colors.rank-color_of, colors.Lists.increasing-le}
use Rattle.sixel_palette.proofs.nearest_entries.Nearest.{nearest-nil, nearest-le}

-- an earlier position has a color that is no later in order
rank-le : (codes : List ℕ) → IsStrictlyIncreasing codes → (i j : ℕ) → i ≤ j → j < length codes
    → rank (color_of (get_or codes i 0)) ≤ rank (color_of (get_or codes j 0))
rank-le codes up i j l m = grind (arith, nat_tests, rank-color_of, increasing-le)

-- with no entry the first of the listed colors is farthest
pub farthest_of_none : (codes : List ℕ) → IsStrictlyIncreasing codes → 0 < length codes
    → IsFarthest (IsListed codes) [] (color_of (get_or codes 0 0))
farthest_of_none codes up some = record {
  member = (0, some, refl);
  farthest = λ d _. omega (arith, nearest-nil d, nearest-nil (color_of (get_or codes 0 0)));
  least = λ d m _. rw (← m.2) (rank-le codes up 0 m.0 (omega arith) m.1);
}

-- the distance of a listed color is that to its nearest entry
squared-listed : (entries : List (List ℕ)) (codes squares color_indices : List ℕ)
    → AreNearest entries codes squares color_indices → (d : List ℕ) (m : IsListed codes d)
    → get_or squares m.0 0 ≡ nearest entries d
squared-listed entries codes squares color_indices kept d m = rw (← m.2) (kept m.0 m.1).gap

-- the first position of the greatest distance is that of the farthest color
pub farthest_from_position : (entries : List (List ℕ)) (codes squares color_indices : List ℕ)
    (position : ℕ)
    → IsStrictlyIncreasing codes → length squares ≡ length codes
    → AreNearest entries codes squares color_indices → IsFirstGreatest squares position
    → IsFarthest (IsListed codes) entries (color_of (get_or codes position 0))
farthest_from_position entries codes squares color_indices position up same kept first =
    grind (arith, nat_tests, squared-listed, rank-le)

-- a distance below that of no entry is that of the nearest entry
pub nearest_from_entry : (entries : List (List ℕ)) (c : List ℕ) (near : NearestEntry)
    → nearest entries c < no_entry → IsNearestEntry entries c near → IsNearest entries c near.index
nearest_from_entry entries c near l h = grind (arith, nat_tests, nearest-le)

-- a code that is the rank of a listed color is among the codes
pub code_from_listed : (codes : List ℕ) (c : List ℕ) (m : IsListed codes c)
    → get_or codes m.0 0 ≡ rank c
code_from_listed codes c m = sym (rank-color_of (get_or codes m.0 0)) ∙ ap rank m.2

-- so the code of an opaque pixel's word is among the codes
pub Contains-word : (pixels codes : List ℕ) (pixel word : ℕ) → IsPixelWord pixels pixel word
    → pixel < length pixels / 4 → 128 ≤ word % 256
    → ((c : List ℕ) → IsShown pixels c → IsListed codes c) → Contains codes (word / 256)
Contains-word pixels codes pixel word is l opaque listed =
    let m = listed (color_at pixels pixel) (pixel, l, omega (arith, is.alpha), refl) in
    (m.0, m.1, grind (arith, nat_tests, get_or_default, code_from_listed))

-- the index for a word is that of each pixel with the word
pub index_from_word : (pixels codes color_indices : List ℕ) (pixel word index : ℕ)
    → IsPixelWord pixels pixel word → IsIndexOf codes color_indices word index
    → IsIndex pixels codes color_indices pixel index
index_from_word pixels codes color_indices pixel word index is h = grind (arith, nat_tests)

-- the index of one more pixel
pub indices_more : (pixels codes color_indices indices : List ℕ) (pixel word index : ℕ)
    → pixel < length indices → IsPixelWord pixels pixel word
    → IsIndexOf codes color_indices word index
    → AreIndicesTo pixels codes color_indices pixel indices
    → AreIndicesTo pixels codes color_indices (pixel + 1) (set indices pixel index)
indices_more pixels codes color_indices indices pixel word index l is own h =
    below_more (λ k. IsIndex pixels codes color_indices k (get_or (set indices pixel index) k 0))
    pixel (λ k m. rw (get_or-set_other indices pixel k index 0 (omega (arith, m))) (h k m))
    (rw (get_or-set_same indices pixel index 0 l)
    (index_from_word _ _ _ pixel word index is own))

-- where the indices of the colors are those of nearest entries, so are the indices of the pixels
pub indices_nearest : (pixels codes squares color_indices : List ℕ) (entries : List (List ℕ))
    (indices : List ℕ) → AreNearest entries codes squares color_indices
    → ((c : List ℕ) → IsShown pixels c → nearest entries c < no_entry)
    → length indices ≡ length pixels / 4
    → AreIndicesTo pixels codes color_indices (length pixels / 4) indices
    → AreIndices pixels entries indices
indices_nearest pixels codes squares color_indices entries indices near below size each = record {
  one_each = size;
  opaque = λ pixel l o.
      let (k, inside, same, index) = (each pixel l).opaque o in
      let c = color_at pixels pixel in
      rw (← index) (nearest_from_entry entries c _ (below c (pixel, l, o, refl))
      (rw same at (near k inside)));
  hidden = λ pixel l. (each pixel l).hidden;
}
