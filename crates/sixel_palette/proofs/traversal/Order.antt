-- Farthest-first lists: with the next color they lie apart, their entries are members, and a set
-- has one of each length.
use Rattle.std.proofs.Common.{◌≡◌, ℕ, zero, suc, ◌<◌, ◌≤◌, List, [], ◌∷◌, ◌++◌, length, get_or}
use Rattle.std.proofs.{Common.{take, refl, add-one, arith}, lemmas.Bool.Decides.nat_tests}
use Rattle.std.proofs.lemmas.List.{get_or-take, take-append-le, take_at, get_or_append_left}
use Rattle.std.proofs.lemmas.List.{get_or_at, take_more_same, length-take, length_push}
use Rattle.std.proofs.{lemmas.List.Elements.All-push, lemmas.List.Quantifiers.all_pairs_push}
use Rattle.std.specs.List.{All}
use Rattle.sixel_palette.specs.Palette.{distance, nearest, AreMembers, IsFarthest, IsFarthestFirst}
use Rattle.sixel_palette.specs.PaletteBound.{AreApart, NoListIsBetter}
use Rattle.sixel_palette.proofs.colors.Colors.{IsColor, same_from_rank}
use Rattle.sixel_palette.proofs.nearest_entries.Nearest.{nearest-le, nearest-take}
use Rattle.sixel_palette.proofs.traversal.Apart.{far_from_others}

-- the entries are members
pub members_from_order : (Member : List ℕ → Type 0) (entries : List (List ℕ))
    → IsFarthestFirst Member entries → All Member entries
members_from_order Member entries order = λ k d l. (order k d l).member

-- a later entry is at least as far from an earlier one as the next color from its nearest entry
pub entry-apart : (Member : List ℕ → Type 0) (entries : List (List ℕ)) (c : List ℕ)
    → IsFarthestFirst Member entries → Member c → (i j : ℕ) (d : List ℕ) → i < j
    → j < length entries → nearest entries c ≤ distance (get_or entries i d) (get_or entries j d)
entry-apart e entries c order m i j d l h =
    grind (arith, nat_tests, get_or-take, nearest-le, length-take, nearest-take)

-- the entries and the next color lie as far apart as that color from its nearest entry
pub apart_from_order : (Member : List ℕ → Type 0) (entries : List (List ℕ)) (c : List ℕ)
    → IsFarthestFirst Member entries → Member c → AreApart (entries ++ c ∷ []) (nearest entries c)
apart_from_order Member entries c order m =
    all_pairs_push (λ a b. nearest entries c ≤ distance a b) entries c
    (entry-apart Member entries c order m) (λ k d l. nearest-le entries c k d l)

-- no list of as many colors is better than a fourth of the next color's distance
pub bound_from_order : (Member : List ℕ → Type 0) (entries : List (List ℕ)) (c : List ℕ)
    → IsFarthestFirst Member entries → Member c
    → NoListIsBetter Member (length entries) (nearest entries c)
bound_from_order Member entries c order m = λ others l.
    far_from_others Member (nearest entries c) others (entries ++ c ∷ [])
    (apart_from_order Member entries c order m)
    (All-push Member entries c (members_from_order Member entries order) m)
    (omega (arith, length_push entries c))

-- one more farthest color
pub order_more : (Member : List ℕ → Type 0) (entries : List (List ℕ)) (c : List ℕ)
    → IsFarthestFirst Member entries → IsFarthest Member entries c
    → IsFarthestFirst Member (entries ++ c ∷ [])
order_more h entries c order far =
    grind (arith, nat_tests, take-append-le, get_or_append_left, length_push, take_at, get_or_at)

-- the same for two sets with the same members
pub farthest_alike : (M N : List ℕ → Type 0) → ((c : List ℕ) → M c → N c)
    → ((c : List ℕ) → N c → M c) → (entries : List (List ℕ)) (c : List ℕ) → IsFarthest M entries c
    → IsFarthest N entries c
farthest_alike h e to from entries c far = grind (arith, nat_tests)

pub members_alike : (M N : List ℕ → Type 0) → ((c : List ℕ) → M c → N c)
    → ((c : List ℕ) → N c → M c) → (colors : List (List ℕ)) → AreMembers M colors
    → AreMembers N colors
members_alike h e to from colors are = grind (arith, nat_tests)

pub order_alike : (M N : List ℕ → Type 0) → ((c : List ℕ) → M c → N c)
    → ((c : List ℕ) → N c → M c) → (entries : List (List ℕ)) → IsFarthestFirst M entries
    → IsFarthestFirst N entries
order_alike h e to from entries order = grind (arith, nat_tests)

-- two farthest colors are equal
farthest_same : (M : List ℕ → Type 0) → ((c : List ℕ) → M c → IsColor c)
    → (entries : List (List ℕ)) (a b : List ℕ) → IsFarthest M entries a → IsFarthest M entries b
    → a ≡ b
farthest_same h colors entries a b f g = grind (arith, nat_tests, same_from_rank)

-- two lists whose colors are farthest from those before agree as far as both go
pub order-take : (M : List ℕ → Type 0) → ((c : List ℕ) → M c → IsColor c)
    → (before : List (List ℕ) → List (List ℕ)) (xs ys : List (List ℕ))
    → ((i : ℕ) (d : List ℕ) → i < length xs → IsFarthest M (before (take i xs)) (get_or xs i d))
    → ((i : ℕ) (d : List ℕ) → i < length ys → IsFarthest M (before (take i ys)) (get_or ys i d))
    → (n : ℕ) → n ≤ length xs → n ≤ length ys → take n xs ≡ take n ys
order-take M colors before xs ys f g zero l m = refl
order-take M colors before xs ys f g (suc n) l m =
    let front = order-take M colors before xs ys f g n (omega arith) (omega arith) in
    let other = rw (← front) at (g n [] (omega arith)) in
    let same = farthest_same M colors _ _ _ (f n [] (omega arith)) other in
    rw (← add-one) (take_more_same xs ys n [] (omega arith) (omega arith) front same)
