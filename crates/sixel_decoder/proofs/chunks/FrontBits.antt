-- The bits of the sixels at the front of bytes, one after another.
use Rattle.std.proofs.Common.{◌≡◌, ℕ, zero, suc, ◌+◌, ◌<◌, ◌≤◌, ◌-◌, Bool, false, cond, List, []}
use Rattle.std.proofs.Common.{◌∷◌, length, get_or, replicate, take, refl, ◌∙◌, ⊎_elim, arith}
use Rattle.std.{proofs.lemmas.Bool.{cases_lt, le-ltb}, proofs.lemmas.Bool.Decides.nat_tests}
use Rattle.std.{proofs.lemmas.List.{get_or_past, get_or-replicate}, proofs.lemmas.Simd.get_or-chunk}
use Rattle.std.proofs.lemmas.Simd.{get_or-sel_l, get_or-zip2, length-chunk, length-sel_l}
use Rattle.std.{proofs.lemmas.Simd.length-zip2, specs.Prelude.{nat_lt, if◌then◌else◌}}
use lib.Lanes.{chunk, sel_l, top, zip2}
use Rattle.sixel_decoder.{proofs.chunks.Lanes.lowered, specs.inside.Runs.{IsSixelByte, bits_of}}

-- the bits of bytes at the front, by the bits of each
pub bits_front : (len : ℕ) (bits bytes : List ℕ) → len ≤ length bits → len ≤ length bytes
    → ((k : ℕ) → k < len → get_or bits k 0 ≡ get_or bytes k 0 - 63)
    → take len bits ≡ bits_of (take len bytes)
bits_front zero bits bytes le le' same = refl
bits_front (suc n) [] bytes le le' same = absurd (omega arith)
bits_front (suc n) (bit ∷ bits) [] le le' same = absurd (omega arith)
bits_front (suc n) (bit ∷ bits) (byte ∷ bytes) le le' same =
    let rest =
    bits_front n bits bytes (omega arith) (omega arith) (λ k lt. same (suc k) (omega arith)) in
    rw (rest, same 0 (omega arith)) refl

-- whether a lane of eight is among the first `len`
abbrev front_mask : ℕ → List Bool
front_mask len =
    top 7 (cond (nat_lt 0 len) 255 0) ∷ top 7 (cond (nat_lt 1 len) 255 0)
    ∷ top 7 (cond (nat_lt 2 len) 255 0) ∷ top 7 (cond (nat_lt 3 len) 255 0)
    ∷ top 7 (cond (nat_lt 4 len) 255 0) ∷ top 7 (cond (nat_lt 5 len) 255 0)
    ∷ top 7 (cond (nat_lt 6 len) 255 0) ∷ top 7 (cond (nat_lt 7 len) 255 0) ∷ []

get_or-front_mask : (len k : ℕ) → k < 8 → get_or (front_mask len) k false ≡ nat_lt k len
get_or-front_mask len k less = grind (arith, nat_tests)

-- the bits of eight bytes, of which the first `len` are sixels, and no bits past those
abbrev pub front_bits : ℕ → List ℕ → List ℕ
front_bits len bytes =
    sel_l (front_mask len) (zip2 lowered (chunk 0 8 bytes) (replicate 8 63)) (replicate 8 0)

module _ (len : ℕ) (bytes : List ℕ) (long : 8 ≤ length bytes) (few : len ≤ 8)
    (fits : (k : ℕ) → get_or bytes k 0 < 256)
    (sixels : (k : ℕ) → k < len → IsSixelByte (get_or bytes k 0)) where
  abbrev low : List ℕ
  low = zip2 lowered (chunk 0 8 bytes) (replicate 8 63)

  long_low : length low ≡ 8
  long_low =
      length-zip2 lowered (chunk 0 8 bytes) (replicate 8 63) (length-chunk 0 8 bytes long)
      ∙ length-chunk 0 8 bytes long

  lane : (k : ℕ) → k < 8 → get_or (front_bits len bytes) k 0
      ≡ (if nat_lt k len then lowered (get_or bytes k 0) 63 else 0)
  lane k less =
      let eight = length-chunk 0 8 bytes long in
      let sixty_three = get_or-replicate {A = ℕ} 8 k 63 0 less in
      let zero = get_or-replicate {A = ℕ} 8 k 0 0 less in
      let start : 0 + k ≡ k = omega arith in
      rw (
        get_or-sel_l (front_mask len) low (replicate 8 0) k 0 less (omega (arith, long_low)) less,
        get_or-front_mask len k less,
        get_or-zip2 lowered (chunk 0 8 bytes) (replicate 8 63) k 0 0 0 (omega arith) less,
        get_or-chunk 0 8 bytes k 0 less,
        sixty_three,
        zero,
        start,
      ) refl

  pub front_sixel : (k : ℕ) → k < len → get_or (front_bits len bytes) k 0 ≡ get_or bytes k 0 - 63
  front_sixel k less = rw (lane k (omega arith)) (grind (arith, nat_tests, sixels k less))

  length_bits : length (front_bits len bytes) ≡ 8
  length_bits = length-sel_l (front_mask len) low (replicate 8 0) (omega (arith, long_low)) refl

  pub front_blank : (k : ℕ) → len ≤ k → get_or (front_bits len bytes) k 0 ≡ 0
  front_blank k past =
      ⊎_elim (λ inside. rw (lane k inside, le-ltb k len past) refl)
      (λ after. get_or_past (front_bits len bytes) k 0 (omega (arith, length_bits)))
      (cases_lt k 8)

  pub front_list : take len (front_bits len bytes) ≡ bits_of (take len bytes)
  front_list =
      bits_front len (front_bits len bytes) bytes (omega (arith, few, length_bits))
      (omega (arith, few, long)) front_sixel

  pub front_six : (k : ℕ) → get_or (front_bits len bytes) k 0 < 64
  front_six k = grind (arith, cases_lt k len, front_sixel k, sixels k, front_blank k)
