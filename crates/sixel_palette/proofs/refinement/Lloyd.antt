-- The rounds of Lloyd's algorithm: the entries of bins, and the means of entries.
use Rattle.std.proofs.Common.{◌≡◌, ℕ, zero, suc, ◌+◌, ◌<◌, ◌≤◌, true, cond, List, [], ◌∷◌, length}
use Rattle.std.proofs.Common.{get_or, map, set, take, refl, sym, ◌∙◌, arith}
use Rattle.std.specs.{List.{All, range_with_len, sum_by}, Prelude.{◌==◌}}
use Rattle.std.proofs.lemmas.{Bool.Decides.nat_tests, List.{get_or-set_other, get_or-set_same}}
use Rattle.std.proofs.lemmas.List.{get_or_default, length-map, length-set, same_lists}
use Rattle.std.proofs.lemmas.List.FromFn.{get_or-map-range_with_len, length-range_with_len}
use Rattle.std.proofs.lemmas.List.Sums.{get_or-le-sum_by, sum_by-cons, sum_by-set, sum_by_more}
use Rattle.std.proofs.lemmas.List.Sums.{sum_by_more_le}
use Rattle.sixel_palette.specs.declared.palette.bins.Bin.{Bin}
use Rattle.sixel_palette.specs.declared.palette.color_sums.ColorSums.{ColorSums}
use Rattle.sixel_palette.specs.declared.palette.nearest_entry.NearestEntry.{NearestEntry}
use Rattle.sixel_palette.specs.{ColorSums.{Pixels, mean_or, sums_of}, GainCut.corner}
use Rattle.sixel_palette.specs.Lloyd.{has_entry, mean_bytes, moved_entries}
use Rattle.sixel_palette.specs.{Lloyd.nearest_index, Palette.{distance, nearest, no_entry}}
use Rattle.sixel_palette.specs.inside.{Nearest.IsNearestEntry, Sums.AreBinsOf}
use Rattle.sixel_palette.specs.inside.Sums.{AreIndicesBy, IsWholeBin, entry_sums}
use Rattle.sixel_palette.specs.inside.Sums.{total}
use Rattle.sixel_palette.proofs.refinement.Sums.{mean_or-same}

-- ---- the nearest entry

-- the first entry at the least distance is that of the definition
index_is : (entries : List (List ℕ)) (c : List ℕ) (i : ℕ) → i < length entries
    → distance (get_or entries i []) c ≡ nearest entries c
    → ((j : ℕ) → j < i → nearest entries c < distance (get_or entries j []) c)
    → i ≡ nearest_index entries c
unfolding nearest nearest_index
index_is [] c i l least first = absurd (omega arith)
index_is (p ∷ ps) c zero l least first = grind (arith, nat_tests)
index_is (p ∷ ps) c (suc i) l least first =
    let far = first 0 (omega arith) in
    let rest = index_is ps c i (omega arith) (omega (arith, least, far)) in
    grind (arith, nat_tests, rest (λ j m. omega (arith, first (suc j) (omega arith), far)))

pub nearest_index-is : (entries : List (List ℕ)) (c : List ℕ) (near : NearestEntry)
    → nearest entries c < no_entry → IsNearestEntry entries c near
    → near.index ≡ nearest_index entries c
nearest_index-is entries c near l h = grind (arith, nat_tests, index_is)

-- ---- sums of entries

-- the sums after one more bin
pub entry_more : (entry : Bin → ℕ) (bins : List Bin) (indices : List ℕ) (sums : List ColorSums)
    (position place : ℕ) (bin : Bin) (old new : ColorSums) (index k : ℕ) (d : ColorSums)
    → AreIndicesBy entry bins indices → position < length bins → bin ≡ get_or bins position bin
    → place ≡ get_or indices position 0 → place < length sums → old ≡ get_or sums place old
    → total new k ≡ total old k + total bin.sums k
    → total (get_or sums index d) k ≡ entry_sums entry (take position bins) index k
    → total (get_or (set sums place new) index d) k
    ≡ entry_sums entry (take (position + 1) bins) index k
entry_more entry bins indices sums position place bin old new index k d are l own at inside was
    plus before =
    grind (arith, sum_by_more, get_or_default, get_or-set_same, get_or-set_other)

pub ruleset additions =
    (length-set, get_or-le-sum_by, sum_by-set, sum_by_more, sum_by_more_le, entry_more)

sum_by_same : {X : Type 0} (f g : X → ℕ) (xs : List X)
    → ((k : ℕ) (d : X) → k < length xs → f (get_or xs k d) ≡ g (get_or xs k d))
    → sum_by f xs ≡ sum_by g xs
sum_by_same f g [] h = refl
sum_by_same f g (x ∷ xs) h =
    grind (arith, sum_by-cons, h 0 x, sum_by_same f g xs (λ k d l. h (suc k) d (omega arith)))

-- the entry that is nearest to the mean of a bin
abbrev pub entry_of : List (List ℕ) → Bin → ℕ
entry_of entries bin = nearest_index entries (mean_bytes (total bin.sums))

-- of whole bins these are the sums of the pixels that have the entry
pub entry_pixels : (pixels : Pixels) (entries : List (List ℕ)) (bins : List Bin) (index k : ℕ)
    → AreBinsOf pixels (λ _. true) bins → All (IsWholeBin pixels) bins
    → entry_sums (entry_of entries) bins index k
    ≡ sums_of pixels (λ c. has_entry pixels entries index (corner pixels.step c)) k
entry_pixels pixels entries bins index k are whole =
    sum_by_same (λ bin. cond (entry_of entries bin == index) (total bin.sums k) 0) _ bins
    (λ j d l i.
    cond (nearest_index entries (mean_bytes (λ n. whole j d l n i)) == index)
    (total (get_or bins j d).sums k) 0)
    ∙ are (has_entry pixels entries index) k

-- the means are the moved entries
pub moved_is : (pixels : Pixels) (entries moved : List (List ℕ)) (bins : List Bin)
    → AreBinsOf pixels (λ _. true) bins → All (IsWholeBin pixels) bins
    → length moved ≡ length entries
    → ((k : ℕ) → k < length entries → get_or moved k []
    ≡ mean_or (entry_sums (entry_of entries) bins k) (get_or entries k []))
    → moved ≡ moved_entries pixels entries
moved_is pixels entries moved bins are whole size means =
    let n = length entries in
    let f : ℕ → List ℕ = λ index.
    mean_or (sums_of pixels (λ c. has_entry pixels entries index (corner pixels.step c)))
    (get_or entries index []) in
    same_lists moved (map f (range_with_len 0 n)) (grind (arith, length-map, length-range_with_len))
    (λ k d l.
    let inside : k < n = omega (arith, l, size) in
    let same =
    mean_or-same (entry_sums (entry_of entries) bins k)
    (sums_of pixels (λ c. has_entry pixels entries k (corner pixels.step c))) (get_or entries k [])
    (λ j. entry_pixels pixels entries bins k j are whole) in
    rw (get_or_default moved k d [] l, means k inside)
    (same ∙ sym (get_or-map-range_with_len f 0 n k k d inside (omega arith))))

-- ---- the better entries
