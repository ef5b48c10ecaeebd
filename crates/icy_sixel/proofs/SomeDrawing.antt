-- Each image of bytes has a palette and a drawing in it.
use Rattle.std.proofs.Common.{⊎_elim, length, get_or, subst, arith, zero, List, ◌++◌, refl, ◌≡◌, []}
use Rattle.std.proofs.Common.{suc, ◌+◌, ◌-◌, ◌*◌, ◌/◌, ◌<◌, ◌≤◌, ◌⊎◌, inl, inr, ◌∷◌, map, ◌∙◌, ℕ}
use Rattle.std.specs.Prelude.{All, Contains, None, Option, Some, if◌then◌else◌, min, nat_le}
use Rattle.std.specs.{Prelude.slice_index, List.range_with_len, List.Sorted.IsStrictlyIncreasing}
use Rattle.std.proofs.lemmas.Bool.{cases_eq, cases_lt}
use Rattle.std.proofs.{lemmas.Bool.Decides.nat_tests, lemmas.List.length_push}
use Rattle.std.proofs.lemmas.List.Elements.{All-nil, All-push, Contains-append_left, Contains-push}
use Rattle.std.proofs.lemmas.List.FromFn.{get_or-map-range_with_len, length-map-range_with_len}
use Rattle.sixel_base.specs.Payload.{Image}
use Rattle.sixel_palette.specs.{GainCut.first_greatest, inside.Codes.color_of}
use Rattle.sixel_palette.specs.Palette.{IsFarthest, IsFarthestFirst, IsNearest, IsOpaque, IsPalette}
use Rattle.sixel_palette.specs.Palette.{IsShown, color_at, distance, nearest, palette_room, rank}
use Rattle.sixel_palette.specs.inside.Codes.{AreShownCodes, HasPixel, IsListed, code_count}
use Rattle.sixel_palette.proofs.refinement.BestBox.{first_greatest-le}
use Rattle.sixel_palette.proofs.{traversal.Choices.size_from_codes, traversal.Law.byte-get_or}
use Rattle.sixel_palette.proofs.colors.Colors.{rank-color_of, rank-lt}
use Rattle.sixel_palette.proofs.colors.Lists.{increasing-le, increasing-push}
use Rattle.sixel_palette.proofs.traversal.Order.{order_alike, order_more}
use Rattle.sixel_palette.proofs.colors.Shown.{IsColor-color_at, shown_from_codes}
use Rattle.sixel_encoder.specs.{Encoding.IsDrawing, Text.Drawing}

-- ---- the codes of the colors that are shown

-- some opaque pixel among the first ones has the code, or none has
has-pixel : (pixels : List ℕ) (count code : ℕ)
    → HasPixel pixels count code ⊎ (HasPixel pixels count code → ⊥)
has-pixel pixels zero code = inr (λ h. absurd (omega (arith, h.1)))
has-pixel pixels (suc n) code =
    let more : HasPixel pixels n code → HasPixel pixels (suc n) code =
    λ h. (h.0, omega (arith, h.1), h.2, h.3) in
    let split : (HasPixel pixels (suc n) code) → HasPixel pixels n code
    ⊎ (IsOpaque pixels n × (rank (color_at pixels n) ≡ code)) =
    λ h. ⊎_elim (λ l. inl (h.0, l, h.2, h.3))
    (λ l. let e : h.0 ≡ n = omega (arith, h.1) in
    inr (rw (← e) (h.2, h.3)))
    (cases_lt h.0 n) in
    ⊎_elim (λ h. inl (more h))
    (λ none.
    ⊎_elim (λ clear. inr (λ h.
    ⊎_elim (λ o. none o) (λ o. omega (arith, o.0)) (split h)))
    (λ opaque.
    ⊎_elim (λ e. inl (n, omega arith, opaque, e))
    (λ other. inr (λ h. ⊎_elim (λ o. none o) (λ o. other o.1) (split h)))
    (cases_eq (rank (color_at pixels n)) code))
    (cases_lt (slice_index pixels (4 * n + 3)) 128))
    (has-pixel pixels n code)

-- the codes below a number that pixels have, in order
record AreCodesBelow (pixels : List ℕ) (count n : ℕ) (codes : List ℕ) : Type 0 where
  up : IsStrictlyIncreasing codes
  below : All (λ code. code < n) codes
  all : All (HasPixel pixels count) codes
  complete : (code : ℕ) → code < n → HasPixel pixels count code → Contains codes code

codes-some : (pixels : List ℕ) (count n : ℕ)
    → (codes : List ℕ) × AreCodesBelow pixels count n codes
codes-some pixels count zero = (
  [],
  record {
    up = λ k l. absurd (omega (arith, l));
    below = All-nil _;
    all = All-nil _;
    complete = λ code l h. absurd (omega (arith, l));
  },
)
codes-some pixels count (suc n) =
    let rest = codes-some pixels count n in
    let are : AreCodesBelow pixels count n rest.0 = rest.1 in
    ⊎_elim (λ has. (
      rest.0 ++ n ∷ [],
      record {
        up = increasing-push rest.0 n are.up are.below;
        below =
            All-push (λ code. code < suc n) rest.0 n
            (λ k d l. let b : get_or rest.0 k d < n = are.below k d l in omega arith) (omega arith);
        all = All-push (HasPixel pixels count) rest.0 n are.all has;
        complete = λ code l h.
            ⊎_elim (λ m. Contains-append_left rest.0 (n ∷ []) code (are.complete code m h))
            (λ m. let e : code ≡ n = omega (arith, l, m) in rw e (Contains-push rest.0 n))
            (cases_lt code n);
      },
    ))
    (λ none. (
      rest.0,
      record {
        up = are.up;
        below = λ k d l. let b : get_or rest.0 k d < n = are.below k d l in omega arith;
        all = are.all;
        complete = λ code l h.
            ⊎_elim (λ m. are.complete code m h)
            (λ m. let e : code ≡ n = omega (arith, l, m) in
            absurd (none (subst (HasPixel pixels count) e h)))
            (cases_lt code n);
      },
    ))
    (has-pixel pixels count n)

shown-codes : (pixels : List ℕ) → All (λ byte. byte < 256) pixels
    → (codes : List ℕ) × AreShownCodes pixels codes
shown-codes pixels bytes =
    let some = codes-some pixels (length pixels / 4) code_count in
    let are : AreCodesBelow pixels (length pixels / 4) code_count some.0 = some.1 in
    let byte = byte-get_or pixels bytes in (
      some.0,
      shown_from_codes pixels some.0 byte are.up (record {
        all = are.all;
        complete = λ pixel l o.
            are.complete (rank (color_at pixels pixel))
            (rank-lt _ (IsColor-color_at pixels pixel byte)) (pixel, l, o, refl);
      }),
    )

-- ---- the palette

-- no number is greater than the first greatest one, and those before it are less
greatest : (f : ℕ → ℕ) (n k : ℕ) → k ≤ n → f k ≤ f (first_greatest f n)
unfolding first_greatest
greatest f zero k l = let e : k ≡ 0 = omega (arith, l) in rw e (omega arith)
greatest f (suc n) k l =
    ⊎_elim (λ (m : k < suc n). grind (arith, nat_tests, greatest f n k (omega (arith, m))))
    (λ (m : suc n ≤ k). let e : k ≡ suc n = omega (arith, l, m) in rw e (grind (arith, nat_tests)))
    (cases_lt k (suc n))

first : (f : ℕ → ℕ) (n k : ℕ) → k < first_greatest f n → f k < f (first_greatest f n)
unfolding first_greatest
first f zero k l = absurd (omega (arith, l))
first f (suc n) k l =
    grind (arith, nat_tests, first f n k, greatest f n k, first_greatest-le f n)

-- so the least number is the one that the first is most above
abbrev least_position : (ℕ → ℕ) → ℕ → ℕ
least_position f n = first_greatest (λ k. f 0 - f k) n

least-is : (f : ℕ → ℕ) (n : ℕ) (p : ℕ) → p ≡ least_position f n
    → ((k : ℕ) → k ≤ n → f p ≤ f k) × ((k : ℕ) → k < p → f p < f k)
least-is f n p e =
    let gap : ℕ → ℕ = λ k. f 0 - f k in
    let best : (k : ℕ) → k ≤ n → gap k ≤ gap p = rw e (greatest gap n) in
    let one : (k : ℕ) → k < p → gap k < gap p = rw e (first gap n) in
    let down : f p ≤ f 0 =
    ⊎_elim (λ (some : 0 < p). let m = one 0 some in omega (arith, m))
    (λ (none : p ≤ 0). let z : p ≡ 0 = omega (arith, none) in rw z (omega arith))
    (cases_lt 0 p) in (
      λ k l. let m = best k l in omega (arith, m, down),
      λ k l. let m = one k l in omega (arith, m, down),
    )

farthest-some : (entries : List (List ℕ)) (codes : List ℕ) → IsStrictlyIncreasing codes
    → 0 < length codes → (c : List ℕ) × IsFarthest (IsListed codes) entries c
farthest-some entries codes up some =
    let gap : ℕ → ℕ = λ k. nearest entries (color_of (get_or codes k 0)) in
    let last : ℕ = length codes - 1 in
    let p : ℕ = first_greatest gap last in
    let l : p < length codes = omega (arith, first_greatest-le gap last, some) in (
      color_of (get_or codes p 0),
      record {
        member = (p, l, refl);
        farthest = λ d m. rw (← m.2) (greatest gap last m.0 (omega (arith, m.1)));
        least = λ d m e.
            ⊎_elim (λ (before : m.0 < p).
            let off : gap m.0 < gap p = first gap last m.0 before in
            let same : gap m.0 ≡ gap p = rw m.2 e in
            absurd (omega (arith, off, same)))
            (λ (after : p ≤ m.0). rw (← m.2)
            (omega (
              arith,
              rank-color_of (get_or codes p 0),
              rank-color_of (get_or codes m.0 0),
              increasing-le codes up p m.0 after m.1,
            )))
            (cases_lt m.0 p);
      },
    )

order-some : (codes : List ℕ) → IsStrictlyIncreasing codes → (m : ℕ) → m ≤ length codes
    → (entries : List (List ℕ)) × IsFarthestFirst (IsListed codes) entries × (length entries ≡ m)
order-some codes up zero l = ([], λ i d h. absurd (omega (arith, h)), refl)
order-some codes up (suc m) l =
    let rest = order-some codes up m (omega (arith, l)) in
    let far = farthest-some rest.0 codes up (omega (arith, l)) in (
      rest.0 ++ far.0 ∷ [],
      order_more (IsListed codes) rest.0 far.0 rest.1 far.1,
      omega (arith, length_push rest.0 far.0, rest.2),
    )

pub palette-some : (pixels : List ℕ) (k : ℕ) → All (λ byte. byte < 256) pixels
    → (entries : List (List ℕ)) × IsPalette pixels k entries
palette-some pixels k bytes =
    let codes = shown-codes pixels bytes in
    let are : AreShownCodes pixels codes.0 = codes.1 in
    let n : ℕ = length codes.0 in
    let some = order-some codes.0 are.ascending (min (palette_room k) n) (omega arith) in (
      some.0,
      record {
        order = order_alike (IsListed codes.0) (IsShown pixels) are.listed are.shown some.0 some.1;
        size = (
          n,
          size_from_codes (IsShown pixels) codes.0 are.ascending are.shown are.listed,
          some.2,
        );
      },
    )

-- ---- the drawing

-- the entry of a pixel: the nearest one
abbrev near : List (List ℕ) → List ℕ → ℕ
near entries c = least_position (λ k. distance (get_or entries k []) c) (length entries - 1)

near-is : (entries : List (List ℕ)) (c : List ℕ) → 0 < length entries
    → IsNearest entries c (near entries c)
near-is entries c some =
    let gap : ℕ → ℕ = λ k. distance (get_or entries k []) c in
    let last : ℕ = length entries - 1 in
    let is = least-is gap last (near entries c) refl in record {
      entry = omega (arith, first_greatest-le (λ k. gap 0 - gap k) last, some);
      least = λ k l. is.0 k (omega (arith, l));
      first = is.1;
    }

abbrev place : List ℕ → List (List ℕ) → ℕ → Option ℕ
place pixels entries pixel =
    if nat_le 128 (slice_index pixels (4 * pixel + 3))
    then Some (near entries (color_at pixels pixel)) else None

-- where a color is shown there is an entry
entry-some : (pixels : List ℕ) (k : ℕ) (entries : List (List ℕ)) → IsPalette pixels k entries
    → (c : List ℕ) → IsShown pixels c → 0 < length entries
entry-some pixels k entries is c shown =
    let among = is.size.1.1.complete c shown in
    omega (arith, is.size.2, is.size.1.2, among.1)

pub drawing-some : (image : Image) (k : ℕ) → All (λ byte. byte < 256) image.pixels
    → (drawing : Drawing) × IsDrawing image k drawing
drawing-some image k bytes =
    let palette = palette-some image.pixels k bytes in
    let entries : List (List ℕ) = palette.0 in
    let n : ℕ = length image.pixels / 4 in (
      record {
        width = image.width;
        height = image.height;
        aspect_ratio = image.aspect_ratio;
        background_mode = image.background_mode;
        colors = entries;
        entries = map (place image.pixels entries) (range_with_len 0 n);
      },
      record {
        width = refl;
        height = refl;
        aspect_ratio = refl;
        background_mode = refl;
        palette = palette.1;
        size = length-map-range_with_len (place image.pixels entries) 0 n;
        shown = λ pixel l opaque. (
          near entries (color_at image.pixels pixel),
          get_or-map-range_with_len (place image.pixels entries) 0 n pixel pixel None l
              (omega arith)
              ∙ grind (arith, nat_tests),
          near-is entries (color_at image.pixels pixel)
              (entry-some image.pixels k entries palette.1 _ (pixel, l, opaque, refl)),
        );
        hidden = λ pixel l hidden.
            get_or-map-range_with_len (place image.pixels entries) 0 n pixel pixel None l
            (omega arith)
            ∙ grind (arith, nat_tests);
      },
    )
