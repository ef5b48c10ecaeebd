-- From the mask of eight bytes to how many of the first ones are sixels.
use Rattle.std.proofs.Common.{◌≡◌, ◌≢◌, ℕ, ◌+◌, ◌-◌, ◌%◌, ◌<◌, ◌≤◌, Bool, false, not, cond, List}
use Rattle.std.proofs.Common.{map, length, get_or, replicate, w8, ap, sym, ◌∙◌, ⊎_elim, arith}
use Rattle.std.specs.{List.prefix_len, Prelude.{min, nat_lt}}
use Rattle.std.proofs.lemmas.{Bool.cases_lt, Bool.Decides.nat_tests, List.length-map}
use Rattle.std.proofs.lemmas.Simd.{length-chunk, map-map, mask_l-mod, none_from_empty_mask}
use Rattle.std.proofs.lemmas.Simd.{run_in_chunk_fails, tops_compared, trailing_mask_l, zip2_splat}
use Rattle.std.proofs.lemmas.Simd.{zip2_splat_left}
use lib.{Count.count_trailing_zeros, Lanes.{chunk, zip2, mask_l, top}}
use Rattle.sixel_decoder.specs.inside.Runs.{IsSixelByte}

-- a byte less 63, which goes round below
abbrev pub lowered : ℕ → ℕ → ℕ
lowered a b = (a + (256 - b)) % 256

-- whether a byte is no sixel
abbrev is_other : ℕ → Bool
is_other byte = nat_lt 63 (lowered byte 63)

-- the mask has a bit for each byte that is no sixel
pub mask_is : (bytes : List ℕ) (at : ℕ) → at + 8 ≤ length bytes
    → mask_l (map (top 7) (zip2 (λ a b. cond (nat_lt a b) 255 0)
    (replicate 8 63) (zip2 lowered (chunk at 8 bytes) (replicate 8 63)))) % 18446744073709551616
    ≡ mask_l (map is_other (chunk at 8 bytes))
mask_is bytes at room =
    let lanes : List ℕ = chunk at 8 bytes in
    let low : List ℕ = map (λ x. lowered x 63) lanes in
    let long : length lanes ≡ 8 = length-chunk at 8 bytes room in
    let few = length-map lanes is_other in
    rw (
      zip2_splat lowered lanes 8 63 long,
      tops_compared w8 nat_lt (replicate 8 63) low,
      zip2_splat_left nat_lt 63 8 low (length-map lanes (λ x. lowered x 63) ∙ long),
      map-map (nat_lt 63) (λ x. lowered x 63) lanes,
    ) (mask_l-mod (map is_other lanes) 64 (omega arith))

sixel_from : (byte : ℕ) → byte < 256 → is_other byte ≡ false → IsSixelByte byte
sixel_from byte fits h = (grind (arith, nat_tests, fits, h), grind (arith, nat_tests, fits, h))

module _ (bytes : List ℕ) (mask : ℕ) (room : 8 ≤ length bytes)
    (fits : (k : ℕ) → get_or bytes k 0 < 256)
    (is : mask ≡ mask_l (map is_other (chunk 0 8 bytes))) where
  -- with no bit all eight are sixels
  all_sixels : mask ≡ 0 → (k : ℕ) → k < 8 → IsSixelByte (get_or bytes k 0)
  all_sixels none k lt =
      sixel_from (get_or bytes k 0) (fits k)
      (none_from_empty_mask is_other bytes 0 8 0 room (sym is ∙ none) k (omega arith) lt)

  -- otherwise those below the lowest bit are
  counted : mask ≢ 0
      → count_trailing_zeros 64 mask ≡ prefix_len (λ x. not (is_other x)) (chunk 0 8 bytes)
  counted some =
      ap (count_trailing_zeros 64) is
      ∙ trailing_mask_l is_other 64 (chunk 0 8 bytes)
      (omega (arith, length-chunk 0 8 bytes room)) (omega (arith, is))

  first_sixels : mask ≢ 0 → (k : ℕ) → k < count_trailing_zeros 64 mask
      → IsSixelByte (get_or bytes k 0)
  first_sixels some k lt =
      sixel_from (get_or bytes k 0) (fits k) (run_in_chunk_fails is_other bytes 0 8
      (count_trailing_zeros 64 mask) 0 room (counted some) k (omega arith) (omega (arith, lt)))

  pub front_sixels : (len : ℕ) → len ≡ min (count_trailing_zeros 64 mask) 8 → (k : ℕ) → k < len
      → IsSixelByte (get_or bytes k 0)
  front_sixels len is k lt =
      ⊎_elim (λ none. all_sixels (omega (arith, none)) k (omega (arith, lt, is)))
      (λ some. first_sixels (grind (arith, nat_tests, some)) k (omega (arith, lt, is)))
      (cases_lt mask 1)
