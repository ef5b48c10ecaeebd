-- The rows that bits set, of several sixels together.
use Rattle.std.proofs.Common.{◌≡◌, ℕ, zero, suc, ◌/◌, ◌%◌, ◌^◌, ◌≤◌, List, [], ◌∷◌, max, length}
use Rattle.std.proofs.{Common.{refl, ap, ◌∙◌, arith}, lemmas.Bool.Decides.nat_tests}
use Rattle.std.proofs.{lemmas.Nat.{or_mod, or_shr}, lemmas.Nat.Bits.{bit_at_or, bit_at-lt}}
use Rattle.std.specs.{Int.{to_le_bytes, w64}, Int.Bits.bit_or, Simd.Lanes.{fold_l, zip2}}
use Rattle.sixel_base.specs.DrawnHeight.{set_rows_within, set_rows, lowered}
use Rattle.sixel_decoder.specs.inside.Runs.{most_rows}

few : (bits k : ℕ) → set_rows_within bits k ≤ k
few bits zero = omega arith
few bits (suc k) = grind (arith, nat_tests, few bits k)

within-or : (a b k : ℕ)
    → set_rows_within (bit_or a b) k ≡ max (set_rows_within a k) (set_rows_within b k)
within-or a b zero = refl
within-or a b (suc k) = grind (arith, nat_tests, bit_at_or, bit_at-lt, few, within-or a b k)

-- the rows of sixels together are the greatest of theirs
pub set_rows-or : (a b : ℕ) → set_rows (bit_or a b) ≡ max (set_rows a) (set_rows b)
set_rows-or a b = within-or a b 6

pub set_rows-fold : (start : ℕ) (lanes : List ℕ)
    → set_rows (fold_l bit_or start lanes) ≡ max (set_rows start) (most_rows lanes)
set_rows-fold start [] = omega arith
set_rows-fold start (bits ∷ lanes) =
    omega (arith, set_rows-fold (bit_or start bits) lanes, set_rows-or start bits)

pub most_rows-zip : (lanes more : List ℕ) → length lanes ≡ length more
    → most_rows (zip2 bit_or lanes more) ≡ max (most_rows lanes) (most_rows more)
most_rows-zip [] [] same = refl
most_rows-zip [] (b ∷ more) same = absurd (omega (arith, same))
most_rows-zip (a ∷ lanes) [] same = absurd (omega (arith, same))
most_rows-zip (a ∷ lanes) (b ∷ more) same =
    omega (arith, set_rows-or a b, most_rows-zip lanes more (omega (arith, same)))

-- rows of one band, and then more of them
pub lowered-again : (before top a b : ℕ)
    → lowered (lowered before top a) top b ≡ lowered before top (max a b)
lowered-again before top a b = grind (arith, nat_tests)

byte-or : (a b k : ℕ) → bit_or a b / 2 ^ k % 256 ≡ bit_or (a / 2 ^ k % 256) (b / 2 ^ k % 256)
byte-or a b k = ap (λ n. n % 256) (or_shr a b k) ∙ or_mod (a / 2 ^ k) (b / 2 ^ k) 8

-- the bytes of two numbers together
pub bytes-or : (a b : ℕ)
    → to_le_bytes w64 (bit_or a b) ≡ zip2 bit_or (to_le_bytes w64 a) (to_le_bytes w64 b)
bytes-or a b =
    let byte = byte-or a b in
    rw (or_mod a b 8, byte 8, byte 16, byte 24, byte 32, byte 40, byte 48, byte 56) refl

pub length-bytes : (a : ℕ) → length (to_le_bytes w64 a) ≡ 8
length-bytes a = refl
