-- Rows of one entry: their length and bits, where a row sets no pixel, and that they set the pixels
-- that have the entry.
use Rattle.std.proofs.Common.{◌≡◌, ℕ, ◌+◌, ◌≤◌, false, List, length, arith, Some, true, ◌*◌, ◌<◌}
use Rattle.std.proofs.lemmas.{Bool.both_ways, Bool.Decides.nat_tests, Grind.common_steps}
use Rattle.std.proofs.lemmas.{List.get_or_past, List.Elements.All-map}
use Rattle.std.proofs.lemmas.List.FromFn.{get_or-map-range_with_len, length-map-range_with_len}
use Rattle.std.specs.{List.range_with_len, Prelude.All}
use Rattle.sixel_encoder.specs.{Marks.is_lit, Text.{Drawing, entry_at, has_dot, row_of, sixel_of}}
use Rattle.sixel_encoder.proofs.MaskBits.{is_set-mask, mask-small}

-- past its end a row sets nothing
pub is_lit-past : (row : List ℕ) (from top column line : ℕ) → from + length row ≤ column
    → is_lit row from top column line ≡ false
is_lit-past row from top column line h = grind (arith, nat_tests, get_or_past)

-- a row has a sixel for each column
pub length-row_of : (drawing : Drawing) (band entry : ℕ)
    → length (row_of drawing band entry) ≡ drawing.width
length-row_of drawing band entry = grind (arith, nat_tests, length-map-range_with_len)

-- a row of an entry has six bits in each column
pub row_of-small : (drawing : Drawing) (band entry : ℕ)
    → All (λ b. b < 64) (row_of drawing band entry)
row_of-small drawing band entry =
    All-map (λ b. b < 64) (sixel_of drawing band entry) (range_with_len 0 drawing.width)
    (grind (arith, nat_tests, mask-small))

-- a pixel in one of the six lines of a band
pub record IsInBand (band line : ℕ) : Type 0 where
  pub since : 6 * band ≤ line
  pub before : line < 6 * band + 6

-- ---- the pixels of a row from the left

-- a row sets pixels of its entry only
pub lit-own : (drawing : Drawing) (band entry column line : ℕ)
    → is_lit (row_of drawing band entry) 0 (6 * band) column line ≡ true
    → entry_at drawing column line ≡ Some entry
lit-own drawing band entry column line lit =
    grind (arith, is_lit-past, length-row_of, nat_tests, get_or-map-range_with_len, is_set-mask)

-- and all of them that are in its band
pub own-lit : (drawing : Drawing) (band entry column line : ℕ) → column < drawing.width
    → IsInBand band line → entry_at drawing column line ≡ Some entry
    → is_lit (row_of drawing band entry) 0 (6 * band) column line ≡ true
own-lit drawing band entry column line lc at e =
    grind (arith, nat_tests, get_or-map-range_with_len, is_set-mask)

-- so no pixel of the band has its entry
pub no_dot-own : (drawing : Drawing) (band entry column line : ℕ) → column < drawing.width
    → IsInBand band line → has_dot (row_of drawing band entry) ≡ false
    → entry_at drawing column line ≡ Some entry → ⊥
no_dot-own drawing band entry column line lc at none e =
    let row : List ℕ = row_of drawing band entry in
    both_ways (is_lit row 0 (6 * band) column line)
    (grind (arith, nat_tests, common_steps))
    (own-lit drawing band entry column line lc at e)
