-- Colors of three bytes and their codes.
use Rattle.std.proofs.Common.{◌≡◌, ℕ, suc, ◌-◌, ◌<◌, ◌≤◌, List, [], ◌∷◌, length, get_or, ⊎_elim}
use Rattle.std.proofs.Common.{arith}
use Rattle.std.specs.{Int.abs_diff, List.{All, Contains}}
use Rattle.std.proofs.lemmas.{Bool.cases_lt, Bool.Decides.nat_tests, Grind.same_number_lists}
use Rattle.sixel_palette.specs.Palette.{distance, square_gap, nearest, rank, no_entry}
use Rattle.sixel_palette.specs.inside.Codes.{color_of, code_count}
use Rattle.sixel_palette.proofs.colors.Distance.{same_from_distance, below_three, square-le}

-- three channels, each a byte
pub record IsColor (c : List ℕ) : Type 0 where
  pub three : length c ≡ 3
  pub bytes : (k : ℕ) → k < 3 → get_or c k 0 < 256

-- colors of one rank are equal
pub same_from_rank : (a b : List ℕ) → IsColor a → IsColor b → rank a ≡ rank b → a ≡ b
unfolding rank
same_from_rank a b p q e = grind (arith, nat_tests, same_number_lists, below_three)

-- the rank of a code's color is the code
pub rank-color_of : (code : ℕ) → rank (color_of code) ≡ code
unfolding rank color_of
rank-color_of code = omega arith

-- a code has a color
pub IsColor-color_of : (code : ℕ) → code < code_count → IsColor (color_of code)
unfolding color_of
IsColor-color_of code l = grind (arith, nat_tests, below_three)

-- the rank of a color has 24 bits
pub rank-lt : (c : List ℕ) → IsColor c → rank c < code_count
unfolding rank
rank-lt c h = grind (arith, nat_tests)

-- a color is that of its rank
pub color_of-rank : (c : List ℕ) → IsColor c → color_of (rank c) ≡ c
color_of-rank c h =
    same_from_rank (color_of (rank c)) c (IsColor-color_of (rank c) (rank-lt c h)) h
    (rank-color_of (rank c))

pub ruleset ranks = (nat_tests, color_of-rank)

-- in one channel bytes are at most 255 apart
square_gap-le : (a b : List ℕ) (k : ℕ) → get_or a k 0 < 256 → get_or b k 0 < 256
    → square_gap a b k ≤ 65025
unfolding square_gap
square_gap-le a b k p q =
    let gap = abs_diff (get_or a k 0) (get_or b k 0) in square-le gap 255 (255 - gap) (omega arith)

-- the distance of two colors is below that of no entry
pub distance-lt : (a b : List ℕ) → IsColor a → IsColor b → distance a b < no_entry
unfolding distance
distance-lt a b p q = grind (arith, nat_tests, square_gap-le)

-- a color at no distance from its nearest entry is an entry
pub Contains-nearest : (ps : List (List ℕ)) (c : List ℕ) → All (λ p. length p ≡ 3) ps → length c ≡ 3
    → nearest ps c ≡ 0 → Contains ps c
unfolding nearest
Contains-nearest [] c a t h = absurd (omega arith)
Contains-nearest (p ∷ ps) c a t h =
    let rest = Contains-nearest ps c (λ k d m. a (suc k) d (omega arith)) t in
    let here = same_from_distance p c (a 0 p (omega arith)) t in
    ⊎_elim (λ l. let r = rest (omega arith) in (suc r.0, omega (arith, r.1), r.2))
    (λ l. (0, omega arith, here (omega arith))) (cases_lt 0 (distance p c))
