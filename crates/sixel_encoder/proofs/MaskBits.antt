-- The bits of a mask: each is the answer of its test.
use Rattle.std.proofs.Common.{◌≡◌, ℕ, zero, suc, ◌+◌, ◌*◌, ◌^◌, ◌<◌, Bool, cond, false, refl, arith}
use Rattle.std.{proofs.lemmas.Bool.Decides.nat_tests, proofs.lemmas.Grind.pow_more}
use Rattle.std.{proofs.lemmas.Nat.Bits.{bit_at_lowest, bit_at-suc}, specs.Int.bit_at}
use Rattle.sixel_base.specs.Picture.{is_set}
use Rattle.sixel_encoder.specs.Text.{mask}

-- a mask by its lowest bit and the others
pub mask-low : (test : ℕ → Bool) (n : ℕ)
    → mask test (suc n) ≡ cond (test 0) 1 0 + 2 * mask (λ k. test (suc k)) n
unfolding mask
mask-low test zero = omega arith
mask-low test (suc n) = grind (arith, nat_tests, mask-low test n, pow_more)

-- a bit is one where its test passes
pub bit_at-mask : (test : ℕ → Bool) (n k : ℕ) → k < n → bit_at (mask test n) k ≡ cond (test k) 1 0
bit_at-mask test zero k l = absurd (omega arith)
bit_at-mask test (suc n) zero l = grind (arith, nat_tests, mask-low, bit_at_lowest)
bit_at-mask test (suc n) (suc k) l =
    let rest = bit_at-mask (λ i. test (suc i)) n k (omega arith) in
    grind (arith, nat_tests, mask-low, bit_at-suc)

-- a mask of n bits is below 2 ^ n
pub mask-lt : (test : ℕ → Bool) (n : ℕ) → mask test n < 2 ^ n
unfolding mask
mask-lt test zero = omega arith
mask-lt test (suc n) = grind (arith, nat_tests, pow_more, mask-lt test n)

-- tests that all fail make 0
pub mask-nothing : (test : ℕ → Bool) (n : ℕ) → ((k : ℕ) → k < n → test k ≡ false) → mask test n ≡ 0
unfolding mask
mask-nothing test zero none = refl
mask-nothing test (suc n) none =
    grind (arith, nat_tests, mask-nothing test n (λ k l. none k (omega arith)))

-- so a sixel's pixel is set where the test of its line passes
pub is_set-mask : (test : ℕ → Bool) (k : ℕ) → k < 6 → is_set (mask test 6) k ≡ test k
is_set-mask test k l = let bit = bit_at-mask test 6 k l in grind (arith, nat_tests)

-- and a sixel has six bits
pub mask-small : (test : ℕ → Bool) → mask test 6 < 64
mask-small test = mask-lt test 6
