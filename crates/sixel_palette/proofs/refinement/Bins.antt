-- The table of bins: a bin with more pixels, and one bin more.
use Rattle.std.proofs.Common.{◌≡◌, ℕ, zero, suc, ◌+◌, ◌*◌, ◌<◌, ◌≤◌, Bool, true, false, List, []}
use Rattle.std.proofs.Common.{◌∷◌, ◌++◌, length, get_or, set, map, cond, refl, ap, sym, ◌∙◌, arith}
use Rattle.std.proofs.{lemmas.Bool.Decides.nat_tests, lemmas.List.get_or-set_same}
use Rattle.std.proofs.lemmas.List.{get_or-set_other, get_or_append_left, get_or_at, length_push}
use Rattle.std.proofs.lemmas.List.{get_or-map, length-map}
use Rattle.std.proofs.{lemmas.List.Kept.AllPairs-from_increasing, lemmas.List.Sums.get_or-le-sum_by}
use Rattle.std.proofs.lemmas.List.Sums.{sum_by-cons, sum_by-set, sum_by-take-le, sum_by_more_le}
use Rattle.std.specs.{List.{All, sum_by}, List.Sorted.IsStrictlyIncreasing, Prelude.{◌/◌, ◌≢◌}}
use Rattle.sixel_palette.specs.{ColorSums.{Pixels, share, sums_of}, GainCut.corner, Lloyd.is_corner}
use Rattle.sixel_palette.specs.{Refined.sum_to, declared.palette.bins.Bin.Bin}
use Rattle.sixel_palette.specs.declared.palette.color_sums.ColorSums.{ColorSums}
use Rattle.sixel_palette.specs.{inside.Bins.{IsTable, slot, corners_of}, inside.Codes.color_of}
use Rattle.sixel_palette.specs.inside.Sums.{AreBinsOf, IsWholeBin, binned_sums, channels}
use Rattle.sixel_palette.specs.inside.Sums.{first_counted, total}
use Rattle.sixel_palette.proofs.refinement.Sums.{sum_by_zero, sum_to-more}

-- ---- equal corners

pub is_corner-true : (a b : List ℕ) → get_or a 0 0 ≡ get_or b 0 0 → get_or a 1 0 ≡ get_or b 1 0
    → get_or a 2 0 ≡ get_or b 2 0 → is_corner a b ≡ true
is_corner-true a b red green blue = grind (arith, nat_tests)

-- their channels are the same
pub same_channels : (a b : List ℕ) → is_corner a b ≡ true → channels a ≡ channels b
same_channels a b e = grind (arith, nat_tests)

-- ---- a bin with more pixels

cond_plus : (test : Bool) (a b : ℕ) → cond test (a + b) 0 ≡ cond test a 0 + cond test b 0
cond_plus test a b = grind (arith, nat_tests)

-- more pixels of a color of its corner
pub sums_more : (bins : List Bin) (place : ℕ) (old new : Bin) (more : ColorSums) (c : List ℕ)
    → place < length bins → old ≡ get_or bins place old → is_corner old.corner c ≡ true
    → new.corner ≡ old.corner → ((k : ℕ) → total new.sums k ≡ total old.sums k + total more k)
    → (contains : List ℕ → Bool) (k : ℕ) → binned_sums contains (set bins place new) k
    ≡ binned_sums contains bins k + cond (contains (channels c)) (total more k) 0
sums_more bins place old new more c within own same corner plus contains k =
    grind (arith, nat_tests, same_channels, cond_plus, sum_by-set)

-- ---- one corner more

-- so no corner is that of a color that the table does not find
pub not_found : (corners : List (List ℕ)) (positions : List ℕ) (c : List ℕ)
    → IsTable corners positions (get_or c 0 0) → get_or c 2 0 < 64
    → (get_or positions (slot c) 0 < length corners
    → is_corner (get_or corners (get_or positions (slot c) 0) []) c ≡ false)
    → (k : ℕ) → k < length corners → is_corner (get_or corners k []) c ≡ false
not_found corners positions c h small miss k l = grind (arith, nat_tests)

-- no corner
pub table_none : (positions : List ℕ) (red : ℕ) → IsTable [] positions red
table_none positions red = grind (arith, nat_tests)

-- one corner more
pub table_more : (corners : List (List ℕ)) (positions : List ℕ) (c : List ℕ) (red : ℕ)
    → IsTable corners positions (get_or c 0 0) → IsTable corners positions red
    → get_or c 0 0 ≤ red → get_or c 1 0 < 64 → get_or c 2 0 < 64
    → ((k : ℕ) → k < length corners → is_corner (get_or corners k []) c ≡ false)
    → slot c < length positions
    → IsTable (corners ++ c ∷ []) (set positions (slot c) (length corners)) red
table_more corners positions c red own h at_most green blue none within =
    grind (arith, length_push, get_or_append_left, get_or_at, get_or-set_same, get_or-set_other)

-- ---- the pixels of one bin

-- where all others are 0, one number is the sum
sum_by_one : {X : Type 0} (f : X → ℕ) (xs : List X) (m : ℕ) (d : X) → m < length xs
    → ((j : ℕ) (e : X) → j < length xs → j ≢ m → f (get_or xs j e) ≡ 0)
    → sum_by f xs ≡ f (get_or xs m d)
sum_by_one f [] m d l h = absurd (omega arith)
sum_by_one f (x ∷ xs) zero d l h =
    grind (arith, sum_by-cons, sum_by_zero f xs (λ j e k. h (suc j) e (omega arith) (omega arith)))
sum_by_one f (x ∷ xs) (suc m) d l h =
    let rest =
    sum_by_one f xs m d (omega arith) (λ j e k o. h (suc j) e (omega arith) (omega arith)) in
    grind (arith, sum_by-cons, h 0 x)

is_corner-comm : (a b : List ℕ) → is_corner a b ≡ false → is_corner b a ≡ false
is_corner-comm a b e = grind (arith, nat_tests)

is_corner-self : (a : List ℕ) → is_corner a a ≡ true
is_corner-self a = is_corner-true a a refl refl refl

-- bins of all pixels whose corners differ are whole
pub whole_bins : (pixels : Pixels) (bins : List Bin) → AreBinsOf pixels (λ _. true) bins
    → ((i j : ℕ) → i < j → j < length (corners_of bins)
    → is_corner (get_or (corners_of bins) i []) (get_or (corners_of bins) j []) ≡ false)
    → All (IsWholeBin pixels) bins
whole_bins pixels bins are distinct = λ m d l k.
    let place = (get_or bins m d).corner in
    let f : Bin → ℕ = λ bin. cond (is_corner place (channels bin.corner)) (total bin.sums k) 0 in
    let other : (j : ℕ) (d : Bin) → j < length bins → j ≢ m → f (get_or bins j d) ≡ 0 = λ j d n e.
    grind (arith, nat_tests, distinct j m, distinct m j, get_or-map, length-map, is_corner-comm) in
    let own : f (get_or bins m d) ≡ total (get_or bins m d).sums k =
    grind (arith, nat_tests, is_corner-self) in
    sym own ∙ (sym (sum_by_one f bins m d l other) ∙ are (is_corner place) k)

-- ---- one color more

cond_times : (test : Bool) (n a : ℕ) → cond test (n * a) 0 ≡ n * cond test a 0
cond_times test n a = grind (arith, nat_tests)

-- a greater code has no less red
pub red-le : (a b : ℕ) → a ≤ b → get_or (color_of a) 0 0 / 4 ≤ get_or (color_of b) 0 0 / 4
unfolding color_of
red-le a b l = omega arith

pub ruleset bin_counts = (nat_tests, get_or-le-sum_by, sum_by_more_le, sum_by-take-le)

-- no pixel
pub counted_none : (step : ℕ) (codes counts : List ℕ) (contains : List ℕ → Bool) (k : ℕ)
    → sums_of (first_counted step codes counts 0) (λ c. contains (corner step c)) k ≡ 0
unfolding sum_to
counted_none step codes counts contains k = refl

-- the pixels of one color more
pub counted_more : (step : ℕ) (codes counts : List ℕ) (n : ℕ) (contains : List ℕ → Bool) (k : ℕ)
    → sums_of (first_counted step codes counts (n + 1)) (λ c. contains (corner step c)) k
    ≡ sums_of (first_counted step codes counts n) (λ c. contains (corner step c)) k
    + cond (contains (corner step (color_of (get_or codes n 0))))
    (get_or counts n 0 * share k (color_of (get_or codes n 0))) 0
counted_more step codes counts n contains k = grind (arith, nat_tests, sum_to-more, cond_times)

-- ---- bins of one color each

-- the bin of a color alone is the color
pub corner-one : (c : List ℕ) → corner 1 c ≡ channels c
corner-one c = grind (arith, nat_tests)

-- other codes are of other colors
other_color : (a b : ℕ) → a < b → is_corner (color_of a) (color_of b) ≡ false
unfolding color_of
other_color a b l = grind (arith, nat_tests)

-- so the corners of colors differ
pub colors_distinct : (codes : List ℕ) (corners : List (List ℕ)) → IsStrictlyIncreasing codes
    → corners ≡ map color_of codes → (i j : ℕ) → i < j → j < length corners
    → is_corner (get_or corners i []) (get_or corners j []) ≡ false
colors_distinct codes corners up are i j l m =
    let inside : j < length codes = omega (arith, m, ap length are, length-map codes color_of) in
    let less = AllPairs-from_increasing codes up i j 0 l inside in
    let at = get_or-map color_of codes in
    rw (are, at i 0 [] (omega arith), at j 0 [] inside) (other_color _ _ less)
