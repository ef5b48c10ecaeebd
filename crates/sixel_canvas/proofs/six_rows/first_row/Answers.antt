use Rattle.std.proofs.Common.{◌≡◌, ℕ, zero, suc, ◌<◌, true, false, refl, eq-eqb, arith, w8}
use Rattle.std.proofs.lemmas.Nat.Bits.{bit_at-trailing_zeros, bit_at-zero}
use Rattle.std.specs.{Int.trailing_zeros, Int.Count.count_trailing_zeros}
use Rattle.sixel_base.specs.Picture.{is_set}
use Rattle.sixel_canvas.proofs.six_rows.first_row.Goals as goal

first_set : (bits : ℕ) → bits < 256 → trailing_zeros w8 bits < 6 →
    is_set bits (trailing_zeros w8 bits) ≡ true
unfolding count_trailing_zeros
first_set zero low less = absurd (grind (arith))
first_set (suc n) low less =
    eq-eqb _ _ (bit_at-trailing_zeros w8 (suc n) (omega arith) low).1

none_above : (bits : ℕ) → bits < 256 → (k : ℕ) → k < trailing_zeros w8 bits →
    is_set bits k ≡ false
none_above zero low k above = rw (bit_at-zero k) refl
none_above (suc n) low k above =
    rw ((bit_at-trailing_zeros w8 (suc n) (omega arith) low).2 k above) refl

pub returns-clause-set : goal.returns-clause-set
returns-clause-set c = first_set c.args.bits (omega arith)

pub returns-clause-above : goal.returns-clause-above
returns-clause-above c = none_above c.args.bits (omega arith)
