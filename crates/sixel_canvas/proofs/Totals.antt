-- Totals of numbers: of equal ones, of zeros, and with one more at the front.
use Rattle.std.proofs.Common.{◌≡◌, ℕ, zero, suc, ◌+◌, ◌≤◌, refl, ap, inl, inr, arith}
use Rattle.std.proofs.lemmas.{Bool.cases_lt, Bool.Decides.nat_tests}
use Rattle.sixel_base.specs.Picture.{total}

-- numbers that are equal one by one, for callers that count the columns without a canvas
pub total-same : (f g : ℕ → ℕ) (n : ℕ) → ((k : ℕ) → f k ≡ g k) → total f n ≡ total g n
unfolding total
total-same f g n same = grind (arith, nat_tests)

-- one more number at the front
pub total-front : (f : ℕ → ℕ) (n : ℕ) → total f (suc n) ≡ f 0 + total (λ k. f (suc k)) n
unfolding total
total-front f zero = omega arith
total-front f (suc n) = omega (arith, total-front f n)

-- the first numbers, and those after them
pub total-add : (f : ℕ → ℕ) (m n : ℕ) → total f (m + n) ≡ total f m + total (λ k. f (m + k)) n
unfolding total
total-add f m zero = grind (arith)
total-add f m (suc n) =
    let more : m + suc n ≡ suc (m + n) = omega arith in
    omega (arith, ap (total f) more, total-add f m n)

-- zeros add nothing
pub total-past : (f : ℕ → ℕ) (m n : ℕ) → ((k : ℕ) → m ≤ k → f k ≡ 0) → m ≤ n
    → total f n ≡ total f m
unfolding total
total-past f m zero past le = grind (arith)
total-past f m (suc n) past le =
    elim (cases_lt n m) [
      | inl last ↦
          let whole : suc n ≡ m = omega arith in
          ap (total f) whole
      | inr more ↦ omega (arith, total-past f m n past more, past n more)
    ]

-- nothing but zeros
pub total-zero : (n : ℕ) → total (λ _. 0) n ≡ 0
unfolding total
total-zero zero = refl
total-zero (suc n) = omega (arith, total-zero n)
