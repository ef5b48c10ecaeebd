-- The index that the least key of sixteen entries gives.
use Rattle.std.proofs.Common.{◌≡◌, ◌⊎◌, ℕ, ◌+◌, ◌-◌, ◌*◌, ◌/◌, ◌%◌, ◌^◌, ◌<◌, ◌≤◌, List, [], ◌∷◌}
use Rattle.std.proofs.Common.{false, cond, length, map, get_or, replicate, min, refl, ap, sym, inl}
use Rattle.std.proofs.Common.{inr, nat_lt, w8, w32, Fits, zero, suc, ◌∙◌, arith}
use Rattle.std.specs.{Int.abs_diff, Prelude.{Option, Some, None, slice_index, slice_index_or}}
use Rattle.std.proofs.lemmas.{Bool.cases_lt, Bool.Decides.nat_tests, List.length-map, Nat.mul-le}
use Rattle.std.proofs.lemmas.Simd.{get_or-replicate, get_or-zip2, length-sel_l, length-zip2}
use Rattle.std.proofs.lemmas.Simd.{get_or-sel_l, tops_compared}
use lib.Lanes.{Each1, sel_l, top, zip2}
use Rattle.sixel_palette.specs.{Dithering.{IsIndex, Mapped, nearer_entry}, Palette.distance}
use Rattle.sixel_palette.specs.Palette.{entry_distance, no_entry, square_gap}
use Rattle.sixel_palette.proofs.colors.Distance.{below_three, square-le}
use Rattle.sixel_palette.proofs.nearest_entries.Nearest.{nearest-le, nearest-reached}
use Rattle.sixel_palette.specs.declared.dithering.sixteen_entries.SixteenEntries.{SixteenEntries}
use Rattle.sixel_palette.specs.inside.{Diffusion.channels, SixteenEntries.{AreSixteen, added}}
use Rattle.sixel_palette.specs.inside.SixteenEntries.{beside, fixed_key, lane_key, lane_of}

-- ---- colors

abbrev black : List ℕ
black = 0 ∷ 0 ∷ 0 ∷ []

-- the square of a difference is the sum of the squares less twice the product
square-up : (a b d : ℕ) → b ≡ a + d → d * d + 2 * (a * b) ≡ a * a + b * b
square-up a b d e = rw e (omega arith)

square-apart : (a b : ℕ) → abs_diff a b * abs_diff a b + 2 * (a * b) ≡ a * a + b * b
square-apart a b = grind (arith, nat_tests, square-up a b (b - a), square-up b a (a - b))

-- the product of two colors
abbrev product : List ℕ → List ℕ → ℕ
product p c =
    slice_index p 0 * slice_index c 0 + slice_index p 1 * slice_index c 1
    + slice_index p 2 * slice_index c 2

distance-product : (p c : List ℕ)
    → distance p c + 2 * product p c ≡ distance p black + distance c black
unfolding distance square_gap
distance-product p c = grind (arith, square-apart)

-- a distance of bytes
gap-small : (x y : ℕ) → x < 256 → y < 256 → abs_diff x y * abs_diff x y ≤ 65025
gap-small x y p q = square-le (abs_diff x y) 255 (255 - abs_diff x y) (omega (arith, p, q))

distance-small : (p c : List ℕ) → ((j : ℕ) → j < 3 → slice_index p j < 256)
    → ((j : ℕ) → j < 3 → slice_index c j < 256) → distance p c < no_entry
unfolding distance square_gap
distance-small p c ps cs = grind (arith, gap-small, ps, cs)

dark : (j : ℕ) → j < 3 → slice_index black j < 256
dark = below_three (λ j. slice_index black j < 256) (omega arith) (omega arith) (omega arith)

bytes : (t : List ℕ) → ((j : ℕ) → slice_index t j ≤ 255) → (j : ℕ) → j < 3
    → slice_index (channels t) j < 256
bytes t low =
    below_three (λ j. slice_index (channels t) j < 256) (omega (arith, low 0))
    (omega (arith, low 1)) (omega (arith, low 2))

-- ---- lanes

-- lanes of bytes are small
pub byte_lanes : (xs : List ℕ) → Each1 (Fits w8) xs → (k : ℕ) → get_or xs k 0 ≤ 255
byte_lanes [] fits k = omega arith
byte_lanes (x ∷ xs) fits zero = omega (arith, fits.0.fits)
byte_lanes (x ∷ xs) fits (suc k) = byte_lanes xs fits.1 k

-- an operation on sixteen lanes
lane_at : (h : ℕ → ℕ → ℕ) (xs ys : List ℕ) → length xs ≡ 16 → length ys ≡ 16
    → (length (zip2 h xs ys) ≡ 16)
    × ((k : ℕ) → k < 16 → get_or (zip2 h xs ys) k 0 ≡ h (get_or xs k 0) (get_or ys k 0))
lane_at h xs ys a b = (
  length-zip2 h xs ys (a ∙ sym b) ∙ a,
  λ k l. get_or-zip2 h xs ys k 0 0 0 (omega (arith, l, a)) (omega (arith, l, b)),
)

-- sums, differences and products of lanes of 32 bits
abbrev plus : List ℕ → List ℕ → List ℕ
plus = zip2 (λ a b. (a + b) % 4294967296)

abbrev minus : List ℕ → List ℕ → List ℕ
minus = zip2 (λ a b. (a + (4294967296 - b)) % 4294967296)

abbrev times : List ℕ → ℕ → List ℕ
times xs x = zip2 (λ a b. a * b % 4294967296) xs (replicate 16 x)

-- the lesser lanes of two rows
abbrev less : ℕ → ℕ → ℕ
less a b = cond (nat_lt a b) 4294967295 0

abbrev least : List ℕ → List ℕ → List ℕ
least xs ys = sel_l (map (top 31) (zip2 less xs ys)) xs ys

least_at : (xs ys : List ℕ) → length xs ≡ 16 → length ys ≡ 16
    → (length (least xs ys) ≡ 16)
    × ((k : ℕ) → k < 16 → get_or (least xs ys) k 0 ≡ min (get_or xs k 0) (get_or ys k 0))
least_at xs ys a b =
    let tests = map (top 31) (zip2 less xs ys) in
    let long : length tests ≡ 16 = length-map (zip2 less xs ys) (top 31)
    ∙ (lane_at less xs ys a b).0 in (
      length-sel_l tests xs ys (long ∙ sym a) (long ∙ sym b) ∙ long,
      λ k l.
          let chosen = get_or-sel_l tests xs ys k 0 (omega (arith, l, long)) (omega (arith, l, a))
          (omega (arith, l, b)) in
          let test = ap (λ ms. get_or ms k false) (tops_compared w32 nat_lt xs ys) in
          let each = get_or-zip2 nat_lt xs ys k 0 0 false (omega (arith, l, a))
          (omega (arith, l, b)) in
          grind (arith, nat_tests),
    )

-- ---- a key

-- a product in lanes
times_at : (xs : List ℕ) (x k channel a : ℕ) → length xs ≡ 16 → k < 16
    → get_or xs k 0 ≡ channel → channel < 256 → x ≡ a * 128 → a ≤ 255
    → (get_or (times xs x) k 0 ≡ 128 * (channel * a)) × (channel * a ≤ 65025)
times_at xs x k channel a long l is byte ex low =
    let most = mul-le channel a 255 255 (omega (arith, byte)) low in (
      (lane_at (λ a b. a * b % 4294967296) xs (replicate 16 x) long refl).1 k l
          ∙ (ap (λ b. get_or xs k 0 * b % 4294967296) (get_or-replicate 16 k x 0 l)
          ∙ rw (is, ex) (omega (arith, most))),
      most,
    )

pub key_at : (colors : List (List ℕ)) (s : SixteenEntries) (t us vs xs ys zs : List ℕ)
    (x y z tolerance before above k : ℕ) → AreSixteen colors tolerance s
    → ((j : ℕ) → slice_index t j ≤ 255) → k < 16 → before ≤ 16 → above ≤ 16
    → length us ≡ 16 → length vs ≡ 16 → length xs ≡ 16 → length ys ≡ 16 → length zs ≡ 16
    → get_or us k 0 ≡ get_or s.before (16 * before + k) 0
    → get_or vs k 0 ≡ get_or s.above (16 * above + k) 0
    → get_or xs k 0 ≡ get_or s.codes k 0 / 2 ^ 0 % 256
    → get_or ys k 0 ≡ get_or s.codes k 0 / 2 ^ 8 % 256
    → get_or zs k 0 ≡ get_or s.codes k 0 / 2 ^ 16 % 256
    → x ≡ get_or t 0 0 * 128 → y ≡ get_or t 1 0 * 128 → z ≡ get_or t 2 0 * 128
    → get_or (minus (least us vs) (plus (plus (times xs x) (times ys y)) (times zs z))) k 0
    ≡ lane_key colors (channels t) tolerance before above k
key_at colors s t us vs xs ys zs x y z tolerance before above k are low l lb la f g p q r eb ea eu
    ev et ex ey ez =
    let color = slice_index_or colors k [] in
    let rows = least_at us vs f g in
    let two = lane_at _ (times xs x) (times ys y) (lane_at _ xs (replicate 16 x) p refl).0
    (lane_at _ ys (replicate 16 y) q refl).0 in
    let sums = plus (plus (times xs x) (times ys y)) (times zs z) in
    let three = lane_at (λ a b. (a + b) % 4294967296) (plus (times xs x) (times ys y)) (times zs z)
    two.0 (lane_at _ zs (replicate 16 z) r refl).0 in
    let code = are.codes k l in
    let red = are.bytes k 0 l (omega arith) in
    let green = are.bytes k 1 l (omega arith) in
    let blue = are.bytes k 2 l (omega arith) in
    let dark_far = distance-small color black (λ j. are.bytes k j l) dark in
    let more : min (beside colors tolerance before 16 k) (beside colors tolerance above 32 k)
    ≡ fixed_key colors k + added tolerance before above k = grind (arith, nat_tests) in
    let most : added tolerance before above k ≤ 12484864 = grind (arith, nat_tests) in
    (lane_at _ (least us vs) sums rows.0 three.0).1 k l
    ∙ omega (
      arith,
      rows.1 k l,
      eb,
      ea,
      are.before before k lb l,
      are.above above k la l,
      more,
      most,
      two.1 k l,
      three.1 k l,
      times_at xs x k (slice_index color 0) _ p l (omega (arith, eu, code, red, green, blue)) red
          ex (low 0),
      times_at ys y k (slice_index color 1) _ q l (omega (arith, ev, code, red, green, blue)) green
          ey (low 1),
      times_at zs z k (slice_index color 2) _ r l (omega (arith, et, code, red, green, blue)) blue
          ez (low 2),
      distance-product color (channels t),
      distance-small (channels t) black (bytes t low) dark,
      dark_far,
    )

-- a channel of each entry
pub channel_at : (codes : List ℕ) (shift : ℕ) → length codes ≡ 16
    → let channels =
    zip2 (λ a b. a % b) (zip2 (λ a b. a / 2 ^ b) codes (replicate 16 shift)) (replicate 16 256) in
    (length channels ≡ 16)
    × ((k : ℕ) → k < 16 → get_or channels k 0 ≡ get_or codes k 0 / 2 ^ shift % 256)
channel_at codes shift long =
    let moved = lane_at (λ a b. a / 2 ^ b) codes (replicate 16 shift) long refl in
    let all =
    lane_at (λ a b. a % b) (zip2 (λ a b. a / 2 ^ b) codes (replicate 16 shift)) (replicate 16 256)
    moved.0 refl in (
      all.0,
      λ k l.
          all.1 k l
          ∙ rw (
            moved.1 k l,
            get_or-replicate {A = ℕ} 16 k shift 0 l,
            get_or-replicate {A = ℕ} 16 k 256 0 l,
          ) refl,
    )

-- ---- the least key

-- the nearer one of two entries
nearer-is : (colors : List (List ℕ)) (c : List ℕ) (first second : Option ℕ) (e : ℕ)
    → ((entry : ℕ) → first ≡ Some entry → entry < 16)
    → ((entry : ℕ) → second ≡ Some entry → entry < 16)
    → nearer_entry colors c first second ≡ Some e
    → (e < 16) × ((lane_of first ≡ e) ⊎ (lane_of second ≡ e))
    × (lane_of first < 16 → entry_distance colors c e ≤ entry_distance colors c (lane_of first))
    × (lane_of second < 16
    → entry_distance colors c e ≤ entry_distance colors c (lane_of second))
    × ((lane_of first ≡ e → ⊥)
    → lane_of first < 16 → entry_distance colors c e < entry_distance colors c (lane_of first))
nearer-is colors c None None e here there is = absurd cc
nearer-is colors c None (Some b) e here there is = grind (arith, nat_tests, there b refl)
nearer-is colors c (Some a) None e here there is = grind (arith, nat_tests, here a refl)
nearer-is colors c (Some a) (Some b) e here there is =
    grind (arith, nat_tests, here a refl, there b refl)

-- where there is one, there is a nearer one
nearer-some : (colors : List (List ℕ)) (c : List ℕ) (first second : Option ℕ) (k : ℕ) → k < 16
    → (lane_of first ≡ k) ⊎ (lane_of second ≡ k)
    → (e : ℕ) × (nearer_entry colors c first second ≡ Some e)
nearer-some colors c None None k l one = absurd (grind (arith, nat_tests))
nearer-some colors c None (Some b) k l one = (b, refl)
nearer-some colors c (Some a) None k l one = (a, refl)
nearer-some colors c (Some a) (Some b) k l one =
    elim (cases_lt (entry_distance colors c b) (entry_distance colors c a)) [
      | inl less ↦ (b, grind (arith, nat_tests))
      | inr more ↦ (a, grind (arith, nat_tests))
    ]

pub IsIndex-least : (m : Mapped) (c : List ℕ) (first second : Option ℕ) (i : ℕ)
    → length m.colors ≡ 16 → ((entry : ℕ) → first ≡ Some entry → entry < 16)
    → ((entry : ℕ) → second ≡ Some entry → entry < 16)
    → ((k : ℕ) → k < 16 → entry_distance m.colors c k < no_entry) → i < 16
    → ((k : ℕ) → k < 16
    → lane_key m.colors c m.tolerance (lane_of first) (lane_of second) i
    ≤ lane_key m.colors c m.tolerance (lane_of first) (lane_of second) k)
    → IsIndex m c (nearer_entry m.colors c first second) i
IsIndex-least m c first second i all here there small l rise =
    let least = nearest-le m.colors c i [] (omega (arith, all, l)) in
    record {
      entry = omega (arith, all, l);
      kept = λ e is near.
          let facts = nearer-is m.colors c first second e here there is in
          grind (arith, nat_tests, facts, rise e facts.0, small e facts.0, least);
      nearest = λ beyond.
          let found = nearest-reached m.colors c [] (omega (arith, least, small i l)) in
          let reached = rise found.0 (omega (arith, found.1, all)) in
          let exact : (lane_of first ≡ i) ⊎ (lane_of second ≡ i) → m.tolerance ≡ 0 =
          λ one.
          let some = nearer-some m.colors c first second i l one in
          let facts = nearer-is m.colors c first second some.0 here there some.1 in
          grind (arith, nat_tests, one, facts, beyond some.0 some.1, reached, found.2) in
          record {
            entry = omega (arith, all, l);
            least = λ j lj. grind (arith, nat_tests, exact, rise j (omega (arith, all, lj)));
            first = λ j lj. grind (arith, nat_tests, exact, rise j (omega (arith, l, lj)));
          };
    }

-- an entry with the color of the target, which the pixel before has
distance-same : (p t : List ℕ) → slice_index p 0 ≡ slice_index t 0
    → slice_index p 1 ≡ slice_index t 1 → slice_index p 2 ≡ slice_index t 2
    → distance p (channels t) ≡ 0
unfolding distance square_gap
distance-same p t r g b = grind (arith, nat_tests)

pub entry_distance-same : (colors : List (List ℕ)) (s : SixteenEntries) (t : List ℕ)
    (tolerance k : ℕ) → AreSixteen colors tolerance s → k < 16
    → ((j : ℕ) → slice_index t j ≤ 255)
    → get_or s.codes k 0 ≡ get_or t 0 0 + 256 * get_or t 1 0 + 65536 * get_or t 2 0
    → entry_distance colors (channels t) k ≡ 0
entry_distance-same colors s t tolerance k are l low code =
    let red = are.bytes k 0 l (omega arith) in
    let green = are.bytes k 1 l (omega arith) in
    let blue = are.bytes k 2 l (omega arith) in
    let all = are.codes k l in
    distance-same _ t (omega (arith, all, code, red, green, blue, low 0, low 1, low 2))
    (omega (arith, all, code, red, green, blue, low 0, low 1, low 2))
    (omega (arith, all, code, red, green, blue, low 0, low 1, low 2))

-- so it is of the keys in lanes
pub IsIndex-keys : (m : Mapped) (s : SixteenEntries) (t keys : List ℕ) (first second : Option ℕ)
    (i least : ℕ) → length m.colors ≡ 16 → AreSixteen m.colors m.tolerance s
    → ((entry : ℕ) → first ≡ Some entry → entry < 16)
    → ((entry : ℕ) → second ≡ Some entry → entry < 16) → ((k : ℕ) → slice_index t k ≤ 255)
    → ((k : ℕ) → k < 16
    → slice_index keys k
    ≡ lane_key m.colors (channels t) m.tolerance (lane_of first) (lane_of second) k) → i < 16
    → slice_index keys i ≡ least → ((k : ℕ) → k < 16 → least ≤ slice_index keys k)
    → IsIndex m (channels t) (nearer_entry m.colors (channels t) first second) (least % 16)
IsIndex-keys m s t keys first second i least all are here there low is l reached lower =
    let rest : added m.tolerance (lane_of first) (lane_of second) i % 16 ≡ 0 =
    grind (arith, nat_tests) in
    let index : least % 16 ≡ i = omega (arith, is i l, reached, rest, l) in
    rw index (IsIndex-least m (channels t) first second i all here there
    (λ k lk.
    distance-small (slice_index_or m.colors k []) (channels t) (λ j. are.bytes k j lk)
    (bytes t low)) l (λ k lk. omega (arith, is i l, is k lk, reached, lower k lk)))
