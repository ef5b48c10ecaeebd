-- Distances of colors: symmetry, the triangle rule, and that only equal colors have none.
use Rattle.std.proofs.Common.{◌≡◌, ℕ, ◌+◌, ◌-◌, ◌*◌, ◌%◌, ◌<◌, ◌≤◌, List, length, ap, arith}
use Rattle.std.proofs.lemmas.{Bool.Decides.nat_tests, Grind.same_number_lists}
use Rattle.std.specs.Int.{abs_diff}
use Rattle.sixel_palette.specs.Palette.{distance, square_gap}

-- squares do not fall
pub square-le : (a b d : ℕ) → b ≡ a + d → a * a ≤ b * b
square-le a b d e = rw e (omega arith)

-- the square of a sum whose second part is the larger one
square-sum_up : (u v d : ℕ) → v ≡ u + d → (u + v) * (u + v) ≤ 2 * (u * u) + 2 * (v * v)
square-sum_up u v d e = rw e (omega arith)

-- the square of a sum is at most twice the two squares
square-sum : (u v : ℕ) → (u + v) * (u + v) ≤ 2 * (u * u) + 2 * (v * v)
square-sum u v = grind (arith, nat_tests, square-sum_up u v (v - u), square-sum_up v u (u - v))

-- three gaps that keep the rule of the triangle, squared
gap_triangle : (m u v : ℕ) → m ≤ u + v → m * m ≤ 2 * (u * u) + 2 * (v * v)
gap_triangle m u v h = omega (arith, square-le m (u + v) (u + v - m) (omega arith), square-sum u v)

-- the rule of the triangle in one channel
square_triangle : (x y z : ℕ)
    → abs_diff x y * abs_diff x y
    ≤ 2 * (abs_diff x z * abs_diff x z) + 2 * (abs_diff z y * abs_diff z y)
square_triangle x y z = gap_triangle (abs_diff x y) (abs_diff x z) (abs_diff z y) (omega arith)

-- a distance goes both ways
pub distance_comm : (a b : List ℕ) → distance a b ≡ distance b a
unfolding distance square_gap
distance_comm a b = grind arith

-- a color has no distance to itself
pub distance_self : (a : List ℕ) → distance a a ≡ 0
unfolding distance square_gap
distance_self a = grind arith

-- the rule of the triangle for squared distances
pub distance_through : (a p b : List ℕ) → distance a b ≤ 2 * distance a p + 2 * distance p b
unfolding distance square_gap
distance_through a p b = grind (arith, nat_tests, square_triangle)

-- a gap with no square is none
gap-zero : (x y : ℕ) → abs_diff x y * abs_diff x y ≡ 0 → x ≡ y
gap-zero x y h = grind (arith, nat_tests)

-- a fact for three indices
pub below_three : (P : ℕ → Type 0) → P 0 → P 1 → P 2 → (k : ℕ) → k < 3 → P k
below_three P a b c k l = grind (arith, nat_tests)

-- colors with no distance are equal
pub same_from_distance : (a b : List ℕ) → length a ≡ 3 → length b ≡ 3 → distance a b ≡ 0 → a ≡ b
unfolding distance square_gap
same_from_distance a b p q h = grind (arith, nat_tests, same_number_lists, below_three, gap-zero)

-- the square of what 2 ^ 32 exceeds a number by, whose double and m make 2 ^ 32
wrapped-up : (g m : ℕ) → 2 * g + m ≡ 4294967296 → (g + m) * (g + m) ≡ 4294967296 * m + g * g
wrapped-up g m e =
    let scaled : (2 * g + m) * m ≡ 4294967296 * m = ap (λ x. x * m) e in omega (arith, scaled)

-- a difference that wraps has the square of the gap
pub wrapped_square : (a b : ℕ) → a < 256 → b < 256
    → (a + (4294967296 - b)) % 4294967296 * ((a + (4294967296 - b)) % 4294967296) % 4294967296
    ≡ abs_diff a b * abs_diff a b
wrapped_square a b p q =
    let small = square-le (abs_diff a b) 255 (255 - abs_diff a b) (omega arith) in
    let up = wrapped-up (abs_diff a b) (4294967296 - 2 * abs_diff a b) (omega arith) in
    grind (arith, nat_tests)
