-- How many members a set has, and when all of them are entries.
use Rattle.std.proofs.Common.{◌≡◌, ℕ, ◌*◌, ◌<◌, ◌≤◌, List, length, arith}
use Rattle.std.proofs.lemmas.Bool.Decides.{nat_tests}
use Rattle.std.specs.List.{All, AllPairs, Contains}
use Rattle.sixel_palette.specs.Palette.{distance, rank, AreMembers, HasSize, IsFarthestFirst}
use Rattle.sixel_palette.specs.PaletteBound.{AreApart}
use Rattle.sixel_palette.proofs.colors.Distance.{distance_self, same_from_distance}
use Rattle.sixel_palette.proofs.{traversal.Apart.far_from_others, colors.Colors.Contains-nearest}
use Rattle.sixel_palette.proofs.traversal.Order.{members_from_order, bound_from_order}

-- a color of a list is not far from all of the list
pub near_from_contains : (colors : List (List ℕ)) (c : List ℕ) (least : ℕ) → Contains colors c
    → All (λ p. least ≤ 4 * distance c p) colors → least ≡ 0
near_from_contains colors c least h far = grind (arith, nat_tests, h.2, distance_self, h.0, h.1)

-- different colors lie apart
apart_from_ascending : (colors : List (List ℕ)) → All (λ c. length c ≡ 3) colors
    → AllPairs (λ a b. rank a < rank b) colors → AreApart colors 1
apart_from_ascending colors three up = λ i j d l m.
    grind (arith, nat_tests, three i, three j, up i j d l m, same_from_distance)

-- a list of all members of a set is no shorter than the list of them
pub size-le : (M : List ℕ → Type 0) → ((c : List ℕ) → M c → length c ≡ 3)
    → (members others : List (List ℕ)) → AreMembers M members
    → ((c : List ℕ) → M c → Contains others c) → length members ≤ length others
size-le M three members others h holds =
    let apart = apart_from_ascending members (λ k d m. three _ (h.all k d m)) h.ascending in
    let far = far_from_others M 1 others members apart h.all in
    grind (arith, nat_tests, near_from_contains, holds)

-- a set has one size
pub one_size : (M : List ℕ → Type 0) → ((c : List ℕ) → M c → length c ≡ 3) → (m n : ℕ)
    → HasSize M m → HasSize M n → m ≡ n
one_size M three m n g h =
    let up = size-le M three g.0 h.0 g.1 h.1.complete in
    let down = size-le M three h.0 g.0 h.1 g.1.complete in
    omega (arith, g.2, h.2)

-- with as many entries as members each member is an entry
pub complete_from_size : (M : List ℕ → Type 0) → ((c : List ℕ) → M c → length c ≡ 3)
    → (entries : List (List ℕ)) (n : ℕ) → IsFarthestFirst M entries → HasSize M n
    → n ≤ length entries → (c : List ℕ) → M c → Contains entries c
complete_from_size M three entries n order size l c m =
    let far = bound_from_order M entries c order m size.0 (omega (arith, size.2)) in
    Contains-nearest entries c (λ k d h. three _ (members_from_order M entries order k d h))
    (three c m) (near_from_contains size.0 far.0 _ (size.1.complete far.0 far.1) far.2)
