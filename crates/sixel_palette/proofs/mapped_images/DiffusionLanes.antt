-- Four lanes of 16 bits as a function of the lane, after each operation, where none of them wraps.
use Rattle.std.proofs.Common.{◌≡◌, ℕ, ◌+◌, ◌-◌, ◌*◌, ◌/◌, ◌^◌, ◌%◌, ◌<◌, ◌≤◌, max, min, cond, false}
use Rattle.std.proofs.Common.{List, [], ◌∷◌, length, map, get_or, take, drop, nat_lt, refl, sym, ap}
use Rattle.std.proofs.{Common.{◌∙◌, Fits, w16, arith}, lemmas.Bool.Decides.nat_tests}
use Rattle.std.proofs.{lemmas.List.{get_or-map, get_or_past, length-map}, lemmas.Simd.length-zip2}
use Rattle.std.proofs.lemmas.Simd.{get_or-zip2, get_or-replicate, length-sel_l, get_or-sel_l}
use Rattle.std.proofs.lemmas.Simd.{tops_compared, get_or-chunk, length-chunk, Each1-get_or}
use lib.Lanes.{Each1, sel_l, top, zip2}
use Rattle.sixel_palette.specs.Dithering.{passed_on, rounded_sixteenths}
use Rattle.sixel_palette.specs.inside.Diffusion.{AreLanes, channels, rounded_color}

-- a list of four
pub lanes : (xs : List ℕ) → length xs ≡ 4 → AreLanes xs (λ k. get_or xs k 0)
lanes xs four = record { four = four; each = λ k l. refl }

-- of one number in each lane
pub lanes-splat : (x : ℕ) → AreLanes (x ∷ x ∷ x ∷ x ∷ []) (λ k. x)
lanes-splat x = record { four = refl; each = λ k l. get_or-replicate 4 k x 0 l }

-- a sum, a difference, a product and a shift to the right
pub lanes-plus : (xs ys : List ℕ) (f g : ℕ → ℕ) → AreLanes xs f → AreLanes ys g
    → ((k : ℕ) → k < 4 → f k + g k < 65536)
    → AreLanes (zip2 (λ a b. (a + b) % 65536) xs ys) (λ k. f k + g k)
lanes-plus xs ys f g a b fit = grind (arith, nat_tests, length-zip2, get_or-zip2)

pub lanes-minus : (xs ys : List ℕ) (f g : ℕ → ℕ) → AreLanes xs f → AreLanes ys g
    → ((k : ℕ) → k < 4 → g k ≤ f k) → ((k : ℕ) → k < 4 → f k < 65536)
    → AreLanes (zip2 (λ a b. (a + (65536 - b)) % 65536) xs ys) (λ k. f k - g k)
lanes-minus xs ys f g a b less fit = grind (arith, nat_tests, length-zip2, get_or-zip2)

pub lanes-times : (xs ys : List ℕ) (f g : ℕ → ℕ) → AreLanes xs f → AreLanes ys g
    → ((k : ℕ) → k < 4 → f k * g k < 65536)
    → AreLanes (zip2 (λ a b. a * b % 65536) xs ys) (λ k. f k * g k)
lanes-times xs ys f g a b fit = grind (arith, nat_tests, length-zip2, get_or-zip2)

pub lanes-shift : (xs ys : List ℕ) (f g : ℕ → ℕ) → AreLanes xs f → AreLanes ys g
    → AreLanes (zip2 (λ a b. a / 2 ^ b) xs ys) (λ k. f k / 2 ^ g k)
lanes-shift xs ys f g a b = grind (arith, nat_tests, length-zip2, get_or-zip2)

-- all ones where the first number is less
abbrev less : ℕ → ℕ → ℕ
less a b = cond (nat_lt a b) 65535 0

-- one lane or another, by which of two numbers is less
lanes-choice : (xs ys us vs : List ℕ) (f g p q r : ℕ → ℕ) → AreLanes xs f → AreLanes ys g
    → AreLanes us p → AreLanes vs q → ((k : ℕ) → k < 4 → f k < g k → p k ≡ r k)
    → ((k : ℕ) → k < 4 → g k ≤ f k → q k ≡ r k)
    → AreLanes (sel_l (map (top 15) (zip2 less xs ys)) us vs) r
lanes-choice xs ys us vs f g p q r a b u v first second =
    let tests = map (top 15) (zip2 less xs ys) in
    let long = length-map (zip2 less xs ys) (top 15) in
    let wide = length-zip2 less xs ys (a.four ∙ sym b.four) in
    let size = length-sel_l tests us vs (grind (
      arith,
      nat_tests,
    )) (omega (arith, v.four, a.four)) in
    record {
      four = omega (arith, a.four);
      each = λ k l.
          let chosen = get_or-sel_l tests us vs k 0 (omega (arith, a.four))
          (omega (arith, u.four)) (omega (arith, v.four)) in
          let test = ap (λ ms. get_or ms k false) (tops_compared w16 nat_lt xs ys) in
          let less = get_or-zip2 nat_lt xs ys k 0 0 false (omega (arith, a.four))
          (omega (arith, b.four)) in
          grind (arith, nat_tests, a.each k, b.each k, u.each k, v.each k, first k, second k);
    }

-- the greater of two lanes
pub lanes-max : (xs ys : List ℕ) (f g : ℕ → ℕ) → AreLanes xs f → AreLanes ys g
    → AreLanes (sel_l (map (top 15) (zip2 less xs ys)) ys xs) (λ k. max (f k) (g k))
lanes-max xs ys f g a b =
    lanes-choice xs ys ys xs f g g f _ a b b a (λ k l below. omega arith)
    (λ k l above. omega arith)

-- a sum that saturates
pub lanes-saturating : (xs ys : List ℕ) (f g : ℕ → ℕ) → AreLanes xs f → AreLanes ys g
    → ((k : ℕ) → k < 4 → f k < 65536)
    → let rest = map (λ a. 65535 - a) xs in
    AreLanes (zip2 (λ a b. (a + b) % 65536) xs
    (sel_l (map (top 15) (zip2 less ys rest)) ys rest)) (λ k. min 65535 (f k + g k))
lanes-saturating xs ys f g a b fit =
    let rest = map (λ a. 65535 - a) xs in
    let spare : AreLanes rest (λ k. 65535 - f k) =
    grind (arith, nat_tests, length-map, get_or-map) in
    let all =
    lanes-plus xs _ f (λ k. min (g k) (65535 - f k)) a
    (lanes-choice ys rest ys rest g (λ k. 65535 - f k) g (λ k. 65535 - f k) _ b spare b spare
    (λ k l below. omega (arith, below)) (λ k l above. omega (arith, above)))
    (λ k l. omega (arith, fit k l)) in
    record { four = all.four; each = λ k l. all.each k l ∙ omega (arith, fit k l) }

-- lanes that get wider
pub lanes-cast : (xs : List ℕ) (f : ℕ → ℕ) → AreLanes xs f → AreLanes (map (λ x. x) xs) f
lanes-cast xs f a = grind (arith, nat_tests, length-map, get_or-map)

-- four numbers of a list
pub lanes-chunk : (xs : List ℕ) (at : ℕ) → at + 4 ≤ length xs
    → AreLanes (take 4 (drop at xs)) (λ k. get_or xs (at + k) 0)
lanes-chunk xs at within = record {
  four = length-chunk at 4 xs within;
  each = λ k l. get_or-chunk at 4 xs k 0 l;
}

-- so they have a common bound, as there is none past them
pub small-lanes : (xs : List ℕ) (f : ℕ → ℕ) (most : ℕ) → AreLanes xs f
    → ((k : ℕ) → k < 4 → f k ≤ most) → (k : ℕ) → get_or xs k 0 ≤ most
small-lanes xs f most are small k = grind (arith, nat_tests, get_or_past)

-- what is passed on, as a difference of products
product-less : (w d e s : ℕ) → w ≡ d + e → w * s - e * s ≡ d * s
product-less w d e s is = rw is (omega arith)

pub passed-part : (v c s : ℕ) → c < 256
    → ((v + 4096) * s - 16 * c * s) / 2 ^ 3 ≡ passed_on s v c
passed-part v c s low =
    ap (λ x. x / 8)
    (product-less (v + 4096) (v + 4096 - 16 * c) (16 * c) s (omega (arith, low)))

-- the lanes of a color, rounded, and their limit
pub lanes-rounded : (xs : List ℕ) → length xs ≡ 4 → Each1 (Fits w16) xs
    → let lowest : List ℕ = 61447 ∷ 61447 ∷ 61447 ∷ 61447 ∷ [] in
    let color =
    zip2 (λ a b. a / 2 ^ b) (zip2 (λ a b. (a + (65536 - b)) % 65536)
    (sel_l (map (top 15) (zip2 less xs lowest)) lowest xs) lowest) (4 ∷ 4 ∷ 4 ∷ 4 ∷ []) in
    AreLanes color (λ k. (get_or xs k 0 - 61447) / 16) × ((k : ℕ) → get_or color k 0 ≤ 255)
lanes-rounded xs four fits =
    let low : (k : ℕ) → k < 4 → get_or xs k 0 < 65536 =
    λ k l. (Each1-get_or (Fits w16) xs k 0 (omega (arith, l, four)) fits).fits in
    let all =
    lanes-shift _ _ _ _
    (lanes-minus _ _ _ _
    (lanes-max _ _ (λ k. get_or xs k 0) _ (lanes xs four) (lanes-splat 61447)) (lanes-splat 61447)
    (λ k l. omega arith) (λ k l. omega (arith, low k l))) (lanes-splat 4) in (
      record { four = all.four; each = λ k l. all.each k l ∙ omega arith },
      small-lanes _ _ 255 all (λ k l. omega (arith, low k l)),
    )

pub channels-rounded : (sum values color : List ℕ) (f : ℕ → ℕ) → AreLanes sum f
    → AreLanes values (λ k. max (f k) 61455 - 61455)
    → AreLanes color (λ k. (get_or sum k 0 - 61447) / 16) → channels color ≡ rounded_color values
channels-rounded sum values color f s v c =
    let each : (k : ℕ) → k < 4 → get_or color k 0 ≡ rounded_sixteenths (get_or values k 0) =
    λ k l. c.each k l ∙ omega (arith, s.each k l, v.each k l) in
    λ i. each 0 (omega arith) i ∷ each 1 (omega arith) i ∷ each 2 (omega arith) i ∷ []
