-- The least key of some entries, and lists of entries of a search.
use Rattle.std.proofs.Common.{◌≡◌, ℕ, zero, suc, ◌+◌, ◌*◌, ◌/◌, ◌%◌, ◌<◌, ◌≤◌, min, List, [], ◌∷◌}
use Rattle.std.proofs.Common.{◌++◌, length, get_or, take, refl, ap, ◌∙◌, append_assoc, arith}
use Rattle.std.proofs.lemmas.{Bool.Decides.nat_tests, List.{take_more, take_all, length-take-le}}
use Rattle.sixel_palette.specs.declared.{palette.nearest.Span.Span, palette.nearest.cube.Cube.Cube}
use Rattle.sixel_palette.specs.declared.palette.nearest_entry.Entry.{Entry}
use Rattle.sixel_palette.specs.declared.palette.nearest_entry.NearestEntry.{NearestEntry}
use Rattle.sixel_palette.specs.Palette.{distance, no_entry}
use Rattle.sixel_palette.specs.inside.Keys.{key_of, least_key, AreNumbered, IsInCube}
use Rattle.sixel_palette.specs.inside.Nearest.{IsNearestEntry}
use Rattle.sixel_palette.proofs.nearest_entries.NearestEntry.{near_none, near_taken, near_kept}

-- what stands past the end of a list of entries
abbrev pub none : Entry
none = record { color = []; index = 0 }

-- what stands past the end of a list of spans
abbrev pub no_span : Span
no_span = record { start = 0; end = 0 }

-- with no entry it is above that of every entry
pub least_key-nil : (c : List ℕ) → least_key [] c ≡ 256 * no_entry
unfolding least_key
least_key-nil c = refl

-- one more entry
pub least_key-push : (es : List Entry) (e : Entry) (c : List ℕ)
    → least_key (es ++ e ∷ []) c ≡ min (least_key es c) (256 * distance e.color c + e.index)
unfolding least_key key_of
least_key-push [] e c = omega arith
least_key-push (x ∷ es) e c = omega (arith, least_key-push es e c)

-- the nearest entry that a key stands for
abbrev pub near_of_key : ℕ → NearestEntry
near_of_key key = record { squared = key / 256; index = key % 256 }

-- the least key of the first entries is that of their nearest one
nearest_to : (colors : List (List ℕ)) (entries : List Entry) (c : List ℕ)
    → AreNumbered colors entries → (n : ℕ) → n ≤ length colors
    → IsNearestEntry (take n colors) c (near_of_key (least_key (take n entries) c))
    × (least_key (take n entries) c % 256 ≤ n)
nearest_to colors entries c h zero l = rw (least_key-nil c) (near_none c, omega arith)
nearest_to colors entries c h (suc n) l =
    let next : suc n ≡ n + 1 = omega arith in
    let color = get_or colors n [] in
    let before = least_key (take n entries) c in
    let old = nearest_to colors entries c h n (omega arith) in
    let push : least_key (take (n + 1) entries) c ≡ min before (256 * distance color c + n) =
    rw (take_more entries n none (omega (arith, h.size)), h.each n (omega arith))
    (least_key-push (take n entries) (record { color = color; index = n }) c) in
    let few = h.few in
    let taken = near_taken (take n colors) color c (distance color c) n (near_of_key before) in
    let kept = near_kept (take n colors) color c (near_of_key before) in
    let size = length-take-le n colors (omega arith) in
    rw (next, take_more colors n [] (omega arith), push) (grind (arith, nat_tests, old))

-- the least key of all entries is that of the nearest one
pub nearest_from_key : (colors : List (List ℕ)) (entries : List Entry) (c : List ℕ) (key : ℕ)
    → AreNumbered colors entries → key ≡ least_key entries c
    → IsNearestEntry colors c (near_of_key key)
nearest_from_key colors entries c key h e =
    let near = (nearest_to colors entries c h (length colors) (omega arith)).0 in
    grind (arith, nat_tests, take_all)

-- the entries before a position that may be nearest in the cube are appended: for each color the
-- least key is theirs, up to the greatest one
pub record ArePushed (cube : Cube) (greatest : ℕ) (before old new : List Entry) : Type 0 where
  pub some : List Entry
  pub whole : new ≡ old ++ some
  pub least : (c : List ℕ) → IsInCube cube c
      → min (least_key some c) (greatest + 1) ≡ min (least_key before c) (greatest + 1)

-- the keys are at most those of the next 64 entries from a position on
pub record AreLeastKeys (cube : Cube) (entries : List Entry) (from : ℕ) (keys : List ℕ)
    : Type 0 where
  pub least : (k : ℕ) → k < 64 → from + k < length entries → (c : List ℕ) → IsInCube cube c
      → get_or keys k 0 ≤ key_of (get_or entries (from + k) none) c

-- one more entry is appended
pub pushed_taken : (cube : Cube) (greatest : ℕ) (before old new : List Entry) (e : Entry)
    → ArePushed cube greatest before old new
    → ArePushed cube greatest (before ++ e ∷ []) old (new ++ e ∷ [])
pushed_taken cube greatest before old new e h = record {
  some = h.some ++ e ∷ [];
  whole = ap (λ xs. xs ++ e ∷ []) h.whole ∙ append_assoc old h.some (e ∷ []);
  least = λ c box. grind (arith, nat_tests, h.least c, least_key-push);
}

-- an entry whose keys are above the greatest one is not appended
pub pushed_skipped : (cube : Cube) (greatest least : ℕ) (before old new : List Entry) (e : Entry)
    → greatest < least → ((c : List ℕ) → IsInCube cube c → least ≤ key_of e c)
    → ArePushed cube greatest before old new
    → ArePushed cube greatest (before ++ e ∷ []) old new
unfolding key_of
pushed_skipped cube greatest least before old new e above far h = record {
  some = h.some;
  whole = h.whole;
  least = λ c box. grind (arith, nat_tests, h.least c, least_key-push, far c);
}
