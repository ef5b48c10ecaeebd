use Rattle.std.proofs.{Common.{◌≡◌, ℕ, ◌%◌, ◌^◌, false, ap}, Math.Nat.zero-div}
use Rattle.std.specs.Prelude.{◌==◌}
use Rattle.sixel_base.specs.Picture.{is_set}

-- a sixel without a dot
pub blank_set : (bit : ℕ) → is_set 0 bit ≡ false
blank_set bit = ap (λ (n : ℕ). n % 2 == 1) (zero-div (2 ^ bit))
