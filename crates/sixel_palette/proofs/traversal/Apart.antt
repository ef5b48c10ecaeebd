-- What colors that lie apart prove of all lists of fewer colors.
use Rattle.std.proofs.Common.{◌≡◌, ℕ, suc, ◌+◌, ◌*◌, ◌<◌, ◌≤◌, Bool, true, false, leb, List, []}
use Rattle.std.proofs.Common.{◌∷◌, length, get_or, refl, arith}
use Rattle.std.specs.List.{All, AllPairs, Contains, filter}
use Rattle.std.proofs.lemmas.{Bool.{cases_Bool, leb-false, leb-true}, Bool.Decides.nat_tests}
use Rattle.std.proofs.lemmas.List.Elements.{All-contains_itself, All-nil, All-cons, All-filter}
use Rattle.std.proofs.lemmas.{List.Elements.filter_passes, List.Kept.AllPairs-filter}
use Rattle.sixel_palette.specs.{Palette.distance, PaletteBound.{AreApart, IsLeastApart}}
use Rattle.sixel_palette.specs.PaletteBound.{NoListIsBetter}
use Rattle.sixel_palette.proofs.colors.Distance.{distance_comm, distance_through}

-- pairs of a list without its first element
pub AllPairs-tail : {X : Type 0} (R : X → X → Type 0) (x : X) (xs : List X) → AllPairs R (x ∷ xs)
    → AllPairs R xs
AllPairs-tail R x xs h = λ i j d l m. h (suc i) (suc j) d (omega arith) (omega arith)

-- a test that all elements pass leaves them all
filter_all : {X : Type 0} (p : X → Bool) (xs : List X) → All (λ x. p x ≡ true) xs → filter p xs ≡ xs
filter_all p [] h = refl
filter_all p (x ∷ xs) h =
    rw (h 0 x (omega arith), filter_all p xs (λ k d l. h (suc k) d (omega arith))) refl

-- the color is not near to p
abbrev is_far : ℕ → List ℕ → List ℕ → Bool
is_far least p c = leb least (4 * distance c p)

-- where one color is near to p, a color apart from it is not
far_from_near : (least : ℕ) (p x y : List ℕ) → least ≤ distance x y → is_far least p x ≡ false
    → is_far least p y ≡ true
far_from_near least p x y h n = grind (arith, nat_tests, leb-false, distance_through, distance_comm)

-- of colors that lie apart at most one is near to p
length-far : (least : ℕ) (p : List ℕ) (colors : List (List ℕ)) → AreApart colors least
    → length colors ≤ length (filter (is_far least p) colors) + 1
length-far least p [] h = omega arith
length-far least p (x ∷ xs) h =
    let tail = length-far least p xs (AllPairs-tail (λ a b. least ≤ distance a b) x xs h) in
    let far : is_far least p x ≡ false → filter (is_far least p) xs ≡ xs = λ f.
    filter_all (is_far least p) xs (λ k d l.
    far_from_near least p x (get_or xs k d) (h 0 (suc k) d (omega arith) (omega arith)) f) in
    grind (arith, nat_tests, cases_Bool (is_far least p x))

-- the members that are not near to p are members and far from it
members_far : (Member : List ℕ → Type 0) (least : ℕ) (p : List ℕ) (colors : List (List ℕ))
    → All Member colors
    → All (λ c. Member c × (least ≤ 4 * distance c p)) (filter (is_far least p) colors)
members_far Member least p colors members = λ k d l. (
  All-filter (is_far least p) Member colors members k d l,
  leb-true _ _ (filter_passes (is_far least p) colors k d l),
)

-- of more colors that lie apart than others one is far from each of the others
pub far_from_others : (Member : List ℕ → Type 0) (least : ℕ) (others colors : List (List ℕ))
    → AreApart colors least → All Member colors → length others < length colors
    → (c : List ℕ) × Member c × All (λ p. least ≤ 4 * distance c p) others
far_from_others Member least [] colors apart members more =
    (get_or colors 0 [], members 0 [] (omega arith), All-nil _)
far_from_others Member least (p ∷ others) colors apart members more =
    let IsFar : List ℕ → Type 0 = λ c. least ≤ 4 * distance c p in
    let rest =
    far_from_others (λ c. Member c × IsFar c) least others (filter (is_far least p) colors)
    (AllPairs-filter (λ a b. least ≤ distance a b) (is_far least p) colors apart)
    (members_far Member least p colors members) (omega (arith, length-far least p colors apart)) in
    (rest.0, rest.1.0, All-cons (λ q. least ≤ 4 * distance rest.0 q) p others rest.1.1 rest.2)

-- colors whose least distance is no less lie apart, and only those
pub apart_from_least : (colors : List (List ℕ)) (least given : ℕ) → IsLeastApart colors least
    → given ≤ least → AreApart colors given
apart_from_least colors least given h l = λ i j d m n. omega (arith, h.apart i j d m n, l)

pub least_from_apart : (colors : List (List ℕ)) (least given : ℕ) → IsLeastApart colors least
    → 2 ≤ length colors → AreApart colors given → given ≤ least
least_from_apart colors least given h many apart =
    let (i, j, l, m, is) = h.reached [] many in omega (arith, apart i j [] l m, is)

-- no list of fewer colors is near to each of those that lie apart
pub bound_from_apart : (colors : List (List ℕ)) (least : ℕ) → AreApart colors least → (n : ℕ)
    → n < length colors → NoListIsBetter (Contains colors) n least
bound_from_apart colors least apart n l = λ others m.
    far_from_others (Contains colors) least others colors apart (All-contains_itself colors)
    (omega arith)
