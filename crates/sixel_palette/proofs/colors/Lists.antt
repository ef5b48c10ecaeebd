-- Lists of numbers: one more at the end, one set, a part, and numbers that rise.
use Rattle.std.proofs.Common.{◌≡◌, ℕ, ◌+◌, ◌-◌, ◌<◌, ◌≤◌, List, [], ◌∷◌, ◌++◌, length, get_or, take}
use Rattle.std.proofs.{Common.{drop, replicate, ◌∙◌, arith}, lemmas.Bool.Decides.nat_tests}
use Rattle.std.proofs.lemmas.List.{get_or_append_left, get_or_push, get_or-take, get_or-drop}
use Rattle.std.proofs.lemmas.List.{get_or-replicate, length_push, length-take, length-drop}
use Rattle.std.proofs.lemmas.List.Kept.{AllPairs-from_increasing}
use Rattle.std.specs.{List.All, List.Sorted.IsStrictlyIncreasing}

-- a fact of each of four indices
pub four_cases : (P : ℕ → Type 0) → P 0 → P 1 → P 2 → P 3 → (k : ℕ) → k < 4 → P k
four_cases P a b c d k l = grind (arith, nat_tests)

-- each position below eight
pub eight_cases : (P : ℕ → Type 0) → P 0 → P 1 → P 2 → P 3 → P 4 → P 5 → P 6 → P 7 → (k : ℕ)
    → k < 8 → P k
eight_cases i a b c d e f g h k l = grind (arith, nat_tests)

-- what is so of each element and of one more
pub each_push : {X : Type 0} (P : ℕ → X → Type 0) (xs : List X) (x d : X) (n : ℕ) → length xs ≡ n
    → ((k : ℕ) → k < n → P k (get_or xs k d)) → P n x → (k : ℕ) → k < n + 1
    → P k (get_or (xs ++ x ∷ []) k d)
each_push P xs x d n size before here k l =
    grind (arith, nat_tests, get_or_append_left, get_or_push)

-- rising numbers do not fall from an earlier position to a later one
pub increasing-le : (xs : List ℕ) → IsStrictlyIncreasing xs → (i j : ℕ) → i ≤ j → j < length xs
    → get_or xs i 0 ≤ get_or xs j 0
increasing-le xs up i j l m = grind (arith, nat_tests, AllPairs-from_increasing)

-- rising numbers and a greater one rise
pub increasing-push : (xs : List ℕ) (x : ℕ) → IsStrictlyIncreasing xs → All (λ y. y < x) xs
    → IsStrictlyIncreasing (xs ++ x ∷ [])
increasing-push xs x up below = grind (arith, length_push, get_or_append_left, get_or_push)

-- a number of a part is that far on in the whole
get_or_part : (xs : List ℕ) (a n k : ℕ) → k < n
    → get_or (take n (drop a xs)) k 0 ≡ get_or xs (a + k) 0
get_or_part xs a n k l = get_or-take n (drop a xs) k 0 l ∙ get_or-drop a xs k 0

-- a part has as many numbers as were asked for
pub length-part : (xs : List ℕ) (a n : ℕ) → a + n ≤ length xs → length (take n (drop a xs)) ≡ n
length-part xs a n l = omega (arith, length-take n (drop a xs), length-drop a xs)

-- a number of the whole is that far back in a part round it
pub part_at : (xs : List ℕ) (a n k : ℕ) → a ≤ k → k < a + n
    → get_or (take n (drop a xs)) (k - a) 0 ≡ get_or xs k 0
part_at xs a n k l m = grind (arith, nat_tests, get_or_part)

-- numbers that are all one
pub all_replicated : (xs : List ℕ) (n x : ℕ) → xs ≡ replicate n x → (k : ℕ) → k < n
    → get_or xs k 0 ≡ x
all_replicated xs n x e k l = rw e (get_or-replicate n k x 0 l)
