-- Sums over pixels, their gain, and the sums over bins.
use Rattle.std.proofs.Common.{◌≡◌, ◌≢◌, ◌⊎◌, ℕ, zero, suc, ◌+◌, ◌*◌, ◌<◌, ◌≤◌, Bool, true}
use Rattle.std.proofs.Common.{◌&&◌, List, [], ◌∷◌, length, get_or, take, drop, refl, ◌∙◌, ⊎_elim}
use Rattle.std.proofs.{Common.{add-one, add-suc, add-zero, arith}, lemmas.Bool.cases_lt}
use Rattle.std.proofs.{lemmas.Bool.Decides.nat_tests, lemmas.List.Sums.sum_by-cons}
use Rattle.std.proofs.lemmas.List.Sums.{sum_by-take-le, sum_by-take-drop}
use Rattle.std.specs.List.{sum_by}
use Rattle.sixel_base.specs.Limits.{area_limit}
use Rattle.sixel_palette.specs.{declared.palette.bins.Bin.Bin, ColorSums.{Pixels, mean_or, sums_of}}
use Rattle.sixel_palette.specs.{GainCut.{Box, box_sums, corner, gain}, Refined.sum_to}
use Rattle.sixel_palette.specs.{inside.Boxes.binned_pixels, inside.Sums.{AreBinsOf, total}}

-- ---- sums of sequences

-- no number
pub sum_to-none : (f : ℕ → ℕ) → sum_to f 0 ≡ 0
unfolding sum_to
sum_to-none f = refl

-- one more number
pub sum_to-more : (f : ℕ → ℕ) (n : ℕ) → sum_to f (n + 1) ≡ sum_to f n + f n
unfolding sum_to
sum_to-more f n = rw add-one refl

-- what a loop over a sum needs
pub ruleset sums = (nat_tests, sum_to-none, sum_to-more)

-- lesser numbers have no greater sum
pub sum_to-le : (f g : ℕ → ℕ) (n : ℕ) → ((k : ℕ) → k < n → f k ≤ g k) → sum_to f n ≤ sum_to g n
unfolding sum_to
sum_to-le f g zero h = omega arith
sum_to-le f g (suc n) h = grind (arith, sum_to-le f g n, h n)

-- equal numbers have one sum
pub sum_to-same : (f g : ℕ → ℕ) (n : ℕ) → ((k : ℕ) → k < n → f k ≡ g k) → sum_to f n ≡ sum_to g n
unfolding sum_to
sum_to-same f g zero h = refl
sum_to-same f g (suc n) h = grind (arith, sum_to-same f g n, h n)

-- fewer numbers have no greater sum
pub sum_to-part : (f : ℕ → ℕ) (m n : ℕ) → m ≤ n → sum_to f m ≤ sum_to f n
unfolding sum_to
sum_to-part f m zero l = let e : m ≡ 0 = omega arith in rw e (omega arith)
sum_to-part f m (suc n) l =
    ⊎_elim (λ (less : m < suc n). omega (arith, sum_to-part f m n (omega arith)))
    (λ (more : suc n ≤ m). let e : m ≡ suc n = omega arith in rw e (omega arith))
    (cases_lt m (suc n))

-- numbers that are all 0
pub sum_to-zero : (f : ℕ → ℕ) (n : ℕ) → ((k : ℕ) → k < n → f k ≡ 0) → sum_to f n ≡ 0
unfolding sum_to
sum_to-zero f zero h = refl
sum_to-zero f (suc n) h = grind (arith, sum_to-zero f n, h n)

-- more numbers, each of which is x
pub sum_to-run : (f : ℕ → ℕ) (x from n : ℕ) → ((k : ℕ) → k < n → f (from + k) ≡ x)
    → sum_to f (from + n) ≡ sum_to f from + n * x
unfolding sum_to
sum_to-run f x from zero h = rw add-zero (omega arith)
sum_to-run f x from (suc n) h =
    let rest = sum_to-run f x from n (λ k l. h k (omega (arith, l))) in
    rw add-suc (omega (arith, h n (omega arith)))

-- one number is greater
pub sum_to-set : (f g : ℕ → ℕ) (i more n : ℕ) → i < n → ((k : ℕ) → k ≢ i → g k ≡ f k)
    → g i ≡ f i + more → sum_to g n ≡ sum_to f n + more
unfolding sum_to
sum_to-set f g i more zero l others own = absurd (omega arith)
sum_to-set f g i more (suc n) l others own =
    grind (arith, sum_to-set f g i more n, sum_to-same g f n, others n, cases_lt i n)

-- numbers of elements that are all 0
pub sum_by_zero : {X : Type 0} (f : X → ℕ) (xs : List X)
    → ((k : ℕ) (d : X) → k < length xs → f (get_or xs k d) ≡ 0) → sum_by f xs ≡ 0
sum_by_zero f [] h = refl
sum_by_zero f (x ∷ xs) h =
    grind (arith, sum_by-cons, h 0 x, sum_by_zero f xs (λ k d l. h (suc k) d (omega arith)))

-- ---- gains

-- without a pixel on a side there is no gain
pub gain-none : (a b : ℕ → ℕ) → (a 0 ≡ 0) ⊎ (b 0 ≡ 0) → gain a b ≡ 0
unfolding gain
gain-none a b h = grind (arith, nat_tests)

-- ---- means

pub mean_or-same : (a b : ℕ → ℕ) (c : List ℕ) → ((k : ℕ) → a k ≡ b k) → mean_or a c ≡ mean_or b c
mean_or-same a b c same = λ i. mean_or (λ k. same k i) c

and_true : (a : Bool) → (a && true) ≡ a
and_true a = grind (arith, nat_tests)

-- the bins of a box have its pixels
pub all_sums : (pixels : Pixels) (box : Box) (bins : List Bin) → AreBinsOf pixels box bins
    → (k : ℕ) → sum_by (λ bin. total bin.sums k) bins ≡ box_sums pixels box k
all_sums pixels box bins are k =
    are (λ _. true) k ∙ (λ i. sums_of pixels (λ c. and_true (box (corner pixels.step c)) i) k)

-- a range of bins has no more pixels than an image
pub binned_part : (bins : List Bin) (start count : ℕ) → binned_pixels bins ≤ area_limit
    → binned_pixels (take count (drop start bins)) ≤ area_limit
binned_part bins start count few =
    let n : Bin → ℕ = λ bin. bin.sums.count in
    omega (arith, sum_by-take-le n (drop start bins) count, sum_by-take-drop n bins start, few)
