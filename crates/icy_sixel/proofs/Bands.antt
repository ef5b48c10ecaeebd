-- The bytes of a chunk up to and with its first graphics new line.
use Rattle.std.proofs.Common.{◌≡◌, ℕ, zero, suc, ◌<◌, false, List, [], ◌∷◌, refl, ap, arith, length}
use Rattle.std.proofs.{Common.take, Common.get_or, lemmas.Bool.Decides.nat_tests}
use Rattle.std.specs.Prelude.{◌==◌}
use Rattle.icy_sixel.specs.Bands.{band_of}

-- the first new line is at this index
pub band_at : (chunk : List ℕ) (index : ℕ) → index < length chunk
    → ((k : ℕ) → k < index → get_or chunk k 0 ≡ 45 → ⊥) → get_or chunk index 0 ≡ 45
    → take (suc index) chunk ≡ band_of chunk
band_at [] index inside none is = absurd (omega (arith, inside))
band_at (byte ∷ chunk) zero inside none is = rw is refl
band_at (byte ∷ chunk) (suc index) inside none is =
    let other : (byte == 45) ≡ false = grind (arith, nat_tests, none 0 (omega arith)) in
    rw other (ap (λ bytes. byte ∷ bytes)
    (band_at chunk index (omega (arith, inside)) (λ k less. none (suc k) (omega (arith, less))) is))

-- there is none
pub band_whole : (chunk : List ℕ) → ((k : ℕ) → k < length chunk → get_or chunk k 0 ≡ 45 → ⊥)
    → take (length chunk) chunk ≡ band_of chunk
band_whole [] none = refl
band_whole (byte ∷ chunk) none =
    let other : (byte == 45) ≡ false = grind (arith, nat_tests, none 0 (omega arith)) in
    rw other (ap (λ bytes. byte ∷ bytes)
    (band_whole chunk (λ k less. none (suc k) (omega (arith, less)))))
