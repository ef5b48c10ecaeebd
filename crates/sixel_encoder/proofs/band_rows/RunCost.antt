-- How many bytes a run of equal sixels takes, and that cutting it in two saves none.
use Rattle.std.proofs.Common.{◌≡◌, ℕ, ◌+◌, ◌*◌, ◌/◌, ◌%◌, ◌^◌, ◌<◌, ◌≤◌, nat_lt, List, ◌∷◌, ◌++◌}
use Rattle.std.proofs.Common.{length, replicate, refl, ap, ◌∙◌, arith, length-append, zero, suc, []}
use Rattle.std.proofs.Common.{decimal}
use Rattle.std.specs.Prelude.{if◌then◌else◌}
use Rattle.std.proofs.lemmas.{Bool.cases_lt, Bool.Decides.nat_tests, Fmt.decimal_digit}
use Rattle.std.proofs.lemmas.{Fmt.decimal_step, Grind.flat_map-append, List.append-nil}
use Rattle.sixel_base.specs.Limits.{repeat_limit}
use Rattle.sixel_encoder.specs.RunTokens.{RunToken, Many, spelling, written, cost, run_tokens}

-- a number from ten on has one digit more than its tenth
length-decimal_step : (n : ℕ) → 10 ≤ n → n < 2 ^ 64
    → length (decimal n) ≡ length (decimal (n / 10)) + 1
length-decimal_step n low high = grind (arith, nat_tests, decimal_step, length-append)

-- how many digits a number has, for numbers of at most k digits
pub length-decimal1 : (n : ℕ) → n < 10 → length (decimal n) ≡ 1
length-decimal1 n h = ap length (decimal_digit n h)

pub length-decimal5 : (n : ℕ) → 10000 ≤ n → n < 100000 → length (decimal n) ≡ 5
length-decimal5 n low high = grind (arith, nat_tests, length-decimal_step, length-decimal1)

-- the bytes of fewer equal sixels than the greatest count
abbrev pub rest_cost : ℕ → ℕ
rest_cost n = if nat_lt 3 n then 2 + length (decimal n) else n

-- the bytes of a run of equal sixels
abbrev pub run_cost : ℕ → ℕ
run_cost n = 7 * (n / repeat_limit) + rest_cost (n % repeat_limit)

-- the sizes between which the bytes of a rest are constant
data Tier (n : ℕ) : Type 0 where
  tier0 : n ≤ 3 → rest_cost n ≡ n → Tier n
  tier1 : 4 ≤ n → n < 10 → rest_cost n ≡ 3 → Tier n
  tier2 : 10 ≤ n → n < 100 → rest_cost n ≡ 4 → Tier n
  tier3 : 100 ≤ n → n < 1000 → rest_cost n ≡ 5 → Tier n
  tier4 : 1000 ≤ n → n < 10000 → rest_cost n ≡ 6 → Tier n
  tier5 : 10000 ≤ n → n < 100000 → rest_cost n ≡ 7 → Tier n

tier : (n : ℕ) → n < 100000 → Tier n
tier n h = grind (arith, length-decimal1, nat_tests, length-decimal5, length-decimal_step)

-- what a rest costs at most, and at least
record Bounds (n c : ℕ) : Type 0 where
  most : c ≤ n
  most1 : n < 10 → c ≤ 3
  most2 : n < 100 → c ≤ 4
  most3 : n < 1000 → c ≤ 5
  most4 : n < 10000 → c ≤ 6
  most5 : c ≤ 7

bounds : (n : ℕ) → n < 100000 → Bounds n (rest_cost n)
bounds n h = grind (arith, nat_tests, tier)

-- two rests that make no whole run cost at least the rest that they make
rest_cost-add : (m n : ℕ) → m + n < repeat_limit → rest_cost (m + n) ≤ rest_cost m + rest_cost n
rest_cost-add m n small =
    let turned : m + n ≡ n + m = omega arith in
    grind (arith, nat_tests, cases_lt m n, bounds, tier)

run_cost-is : (q r : ℕ) → r < repeat_limit → run_cost (repeat_limit * q + r) ≡ 7 * q + rest_cost r
run_cost-is q r h = grind (arith, nat_tests)

cut-at : (p q r s : ℕ) → r < repeat_limit → s < repeat_limit
    → run_cost (repeat_limit * p + r + (repeat_limit * q + s))
    ≤ (7 * p + rest_cost r) + (7 * q + rest_cost s)
cut-at p q r s hr hs =
    let over = cases_lt (r + s) repeat_limit in
    let run = run_cost-is (p + q) (r + s) in
    grind (arith, nat_tests, rest_cost-add r s, run_cost-is, length-decimal5, bounds, tier)

-- cutting a run in two saves no byte
pub run_cut : (m n : ℕ) → run_cost (m + n) ≤ run_cost m + run_cost n
run_cut m n = grind (arith, nat_tests, cut-at)

-- a run takes at least a byte for each of its first three sixels
pub run_low : (n m : ℕ) → m ≤ n → m ≤ 3 → m ≤ run_cost n
run_low n m few three = grind (arith, nat_tests, run_cost-is, tier)

pub run_cost0 : run_cost 0 ≡ 0
run_cost0 = refl

-- ---- the bytes of the tokens themselves

pub cost-append : (a b : List RunToken) → cost (a ++ b) ≡ cost a + cost b
cost-append a b = ap length (flat_map-append spelling a b) ∙ length-append (written a) (written b)

cost-replicate : (n : ℕ) (token : RunToken) → cost (replicate n token) ≡ n * length (spelling token)
cost-replicate zero token = omega arith
cost-replicate (suc n) token = grind (arith, nat_tests, length-append, cost-replicate n token)

length-many : (n bits : ℕ) → length (spelling (Many n bits)) ≡ 2 + length (decimal n)
length-many n bits = omega (arith, length-append (decimal n) ((63 + bits) ∷ []))

-- the tokens of a run have its bytes
pub cost-run : (n bits : ℕ) → cost (run_tokens n bits) ≡ run_cost n
cost-run n bits =
    grind (arith, nat_tests, length-many, length-decimal5, cost-replicate, cost-append, append-nil)
