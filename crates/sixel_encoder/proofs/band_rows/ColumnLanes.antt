-- The lanes of a column: those that have a value, as the bits of a number, those that are all
-- equal, and those that equal the lanes of another column.
use Rattle.std.proofs.Common.{None, Some, not, ◌≢◌, Bool, List, ap, arith, cond, eqb, false, inl}
use Rattle.std.proofs.Common.{inr, length, map, refl, replicate, suc, sym, true, w16, zero, ℕ, ◌%◌}
use Rattle.std.proofs.Common.{◌*◌, ◌+◌, ◌<◌, ◌∙◌, ◌∷◌, ◌≡◌, ◌≤◌, get_or, []}
use Rattle.std.proofs.{lemmas.Bool.{both_ways, cases_lt}, lemmas.Bool.Decides.nat_tests}
use Rattle.std.proofs.{lemmas.List.{get_or-map, length-map}, lemmas.Simd.bitmask_splat}
use Rattle.std.proofs.lemmas.Simd.{get_or-chunk, length-chunk, get_or-zip2}
use Rattle.std.specs.Prelude.{is_some, ◌==◌}
use lib.Lanes.{chunk, mask_l, top, zip2}
use Rattle.sixel_encoder.specs.{Compact.transparent_sixel, Text.{entry_at, is_entry, mask}}
use Rattle.sixel_encoder.specs.{Text.sixel_of, declared.band_entries.BandEntries.BandEntries}
use Rattle.sixel_encoder.specs.{declared.text.IndexedImage.IndexedImage, inside.Compact.AreLanes}
use Rattle.sixel_encoder.specs.{inside.Compact.lane_of, inside.Indexed.{IsIndexed, drawing_of}}
use Rattle.sixel_encoder.proofs.{MaskBits.{mask-low, is_set-mask, mask-small}, band_rows.Masks.hits}
use Rattle.sixel_encoder.proofs.band_rows.Masks.{hits-past, mask-more, mask-none}
use Rattle.sixel_base.specs.Picture.{is_set}

-- ---- the mask of a list of answers

-- tests that agree have one mask
pub mask-same : (p q : ℕ → Bool) (n : ℕ) → ((k : ℕ) → k < n → p k ≡ q k) → mask p n ≡ mask q n
unfolding mask
mask-same p q zero same = refl
mask-same p q (suc n) same = grind (arith, nat_tests, mask-same p q n (λ k l. same k (omega arith)))

-- the number of a list of answers is their mask
mask_l-mask : (answers : List Bool)
    → mask_l answers ≡ mask (λ k. get_or answers k false) (length answers)
mask_l-mask [] = sym (mask-none (λ k. get_or [] k false))
mask_l-mask (b ∷ answers) = grind (arith, nat_tests, mask-low, mask_l-mask answers)

-- ---- the lanes that have a value

-- the mask of the comparison has a bit for each lane that has it
pub mask_is : (lanes : List ℕ) (at value : ℕ) → at + 8 ≤ length lanes
    → mask_l
    (map (top 15) (zip2 (λ a b. cond (eqb a b) 65535 0) (chunk at 8 lanes) (replicate 8 value)))
    % 18446744073709551616 ≡ mask (λ bit. get_or lanes (at + bit) 0 == value) 8
mask_is lanes at value inside =
    let part = chunk at 8 lanes in
    let long = length-chunk at 8 lanes inside in
    let test : ℕ → Bool = λ x. x == value in
    let size : length (map test part) ≡ 8 = length-map part test ∙ long in
    bitmask_splat w16 (λ a b. eqb a b) part 8 value long (omega arith)
    ∙ (mask_l-mask (map test part)
    ∙ (ap (mask (λ k. get_or (map test part) k false)) size
    ∙ mask-same (λ k. get_or (map test part) k false) (λ bit. get_or lanes (at + bit) 0 == value) 8
    (λ k l.
    get_or-map test part k 0 false (omega (arith, long, l))
    ∙ ap test (get_or-chunk at 8 lanes k 0 l))))

-- ---- the sixels of a column

-- no pixel of an image has an entry past 255
known : (image : IndexedImage) (band column bit e : ℕ) → IsIndexed image → column < image.width
    → entry_at (drawing_of image) column (6 * band + bit) ≡ Some e → e < 256
known image band column bit e is lc at =
    elim (cases_lt e 256) [
      | inl l ↦ l
      | inr past ↦
          let own : is_entry e (Some e) ≡ true = grind (arith, nat_tests) in
          absurd (both_ways (hits image band e column bit)
          (hits-past image band bit e column is lc (omega (arith, past, is.colors)))
          (ap (is_entry e) at ∙ own))
    ]

-- the lane of an opaque pixel is an entry
pub opaque-lane : (entries : BandEntries) (column bit lane : ℕ) → AreLanes entries
    → column < entries.image.now.width
    → lane ≡ lane_of (entry_at (drawing_of entries.image.now) column (6 * entries.band + bit))
    → lane ≢ 256
    → (entry_at (drawing_of entries.image.now) column (6 * entries.band + bit) ≡ Some lane)
    × (lane < 256)
opaque-lane entries column bit lane are lc is other = grind (arith, nat_tests, known)

-- that of any other has none
pub transparent-lane : (entries : BandEntries) (column bit lane : ℕ) → AreLanes entries
    → column < entries.image.now.width
    → lane ≡ lane_of (entry_at (drawing_of entries.image.now) column (6 * entries.band + bit))
    → lane ≡ 256
    → entry_at (drawing_of entries.image.now) column (6 * entries.band + bit) ≡ None
transparent-lane entries column bit lane are lc is none = grind (arith, nat_tests, known)

-- the lanes with an entry are the sixel of the entry
pub sixel-lanes : (entries : BandEntries) (column entry : ℕ) → AreLanes entries
    → column < entries.image.now.width → entry < 256
    → mask (λ bit. get_or entries.lanes.items (8 * column + bit) 0 == entry) 8
    ≡ sixel_of (drawing_of entries.image.now) entries.band entry column
sixel-lanes entries column entry are lc le =
    let test : ℕ → Bool = λ bit. get_or entries.lanes.items (8 * column + bit) 0 == entry in
    let same =
    mask-same test (λ bit.
    is_entry entry (entry_at (drawing_of entries.image.now) column (6 * entries.band + bit))) 6
    (grind (arith, nat_tests)) in
    grind (arith, nat_tests, mask-more test 6, mask-more test 7)

-- the transparent lanes are the sixel of the transparent pixels and two more bits
pub transparent-lanes : (entries : BandEntries) (column : ℕ) → AreLanes entries
    → column < entries.image.now.width
    → mask (λ bit. get_or entries.lanes.items (8 * column + bit) 0 == 256) 8
    ≡ transparent_sixel (drawing_of entries.image.now) entries.band column + 192
transparent-lanes entries column are lc =
    let test : ℕ → Bool = λ bit. get_or entries.lanes.items (8 * column + bit) 0 == 256 in
    let same =
    mask-same test (λ bit. not (is_some
    (entry_at (drawing_of entries.image.now) column (6 * entries.band + bit)))) 6
    (grind (arith, nat_tests, known)) in
    grind (arith, nat_tests, mask-more test 6, mask-more test 7)

-- ---- the lanes of one column

-- the lowest six of eight answers, if their bits are set
low-six : (a b : Bool) (x m : ℕ) → x < 64 → m ≡ x + cond a 64 0 + cond b 128 0 → m % 64 ≡ 63
    → x ≡ 63
low-six a b x m l is all = grind (arith, nat_tests)

-- each of six bits of 63 is set
set-all : (k : ℕ) → k < 6 → is_set 63 k ≡ true
unfolding mask
set-all k l = is_set-mask (λ _. true) k l

-- the pixels of a column have one entry, if their lanes are those of the first
pub uniform-lanes : (entries : BandEntries) (column first m : ℕ) → AreLanes entries
    → column < entries.image.now.width
    → first ≡ lane_of (entry_at (drawing_of entries.image.now) column (6 * entries.band + 0))
    → m ≡ mask (λ bit. get_or entries.lanes.items (8 * column + bit) 0 == first) 8
    → m % 64 ≡ 63 → (bit : ℕ) → bit < 6
    → entry_at (drawing_of entries.image.now) column (6 * entries.band + bit)
    ≡ entry_at (drawing_of entries.image.now) column (6 * entries.band + 0)
uniform-lanes entries column first m are lc is masked all bit lb =
    let test : ℕ → Bool = λ bit. get_or entries.lanes.items (8 * column + bit) 0 == first in
    let whole = low-six (test 6) (test 7) (mask test 6) m (mask-small test)
    (omega (arith, masked, mask-more test 6, mask-more test 7)) all in
    let on : test bit ≡ true =
    sym (is_set-mask test bit lb) ∙ (ap (λ n. is_set n bit) whole ∙ set-all bit lb) in
    let same : get_or entries.lanes.items (8 * column + bit) 0 ≡ first = grind (arith, nat_tests) in
    grind (arith, transparent-lane, opaque-lane)

-- ---- the lanes of two columns

-- lanes of which none differs are equal
pub equal-lanes : (lanes : List ℕ) (one other k : ℕ) → one + 8 ≤ length lanes
    → other + 8 ≤ length lanes
    → mask_l
    (map (top 15)
    (zip2 (λ a b. cond (not (eqb a b)) 65535 0) (chunk one 8 lanes) (chunk other 8 lanes)))
    % 18446744073709551616 ≡ 0
    → k < 8 → get_or lanes (one + k) 0 ≡ get_or lanes (other + k) 0
equal-lanes lanes one other k l1 l2 none lk =
    let t : ℕ → ℕ → Bool = λ a b. not (eqb a b) in
    let xs = chunk one 8 lanes in
    let ys = chunk other 8 lanes in
    let lx = length-chunk one 8 lanes l1 in
    let ly = length-chunk other 8 lanes l2 in
    let zero_mask : mask_l (zip2 t xs ys) ≡ 0 = grind (arith, nat_tests) in
    let at = get_or-zip2 t xs ys k 0 0 false (omega (arith, lx, lk)) (omega (arith, ly, lk)) in
    let same : get_or xs k 0 ≡ get_or ys k 0 = grind (arith, nat_tests) in
    sym (get_or-chunk one 8 lanes k 0 lk) ∙ (same ∙ get_or-chunk other 8 lanes k 0 lk)

-- the pixels of two columns have the same entries, if their lanes are equal
pub repeated-lanes : (entries : BandEntries) (column before : ℕ) → AreLanes entries
    → column < entries.image.now.width → before < entries.image.now.width
    → ((k : ℕ) → k < 8 → get_or entries.lanes.items (8 * column + k) 0
    ≡ get_or entries.lanes.items (8 * before + k) 0)
    → (bit : ℕ) → bit < 6
    → entry_at (drawing_of entries.image.now) column (6 * entries.band + bit)
    ≡ entry_at (drawing_of entries.image.now) before (6 * entries.band + bit)
repeated-lanes entries column before are lc lb same bit l =
    grind (arith, nat_tests, transparent-lane, opaque-lane)
