-- Sums over codes and over pixels.
use Rattle.std.proofs.Common.{◌≡◌, ℕ, zero, suc, ◌+◌, ◌*◌, ◌/◌, ◌%◌, ◌<◌, ◌≤◌, List, length, get_or}
use Rattle.std.proofs.Common.{take, set, replicate, refl, ap, arith, ◌∙◌}
use Rattle.std.proofs.{Math.Nat.mul-le-mul_left, lemmas.Bool.Decides.nat_tests}
use Rattle.std.proofs.lemmas.List.{length-set, length-replicate, get_or-replicate, get_or-set_same}
use Rattle.std.proofs.{lemmas.List.{get_or-set_other, take_all}, lemmas.List.Sums.sum_by_more}
use Rattle.std.specs.List.{sum}
use Rattle.sixel_base.specs.Limits.{area_limit}
use Rattle.sixel_palette.specs.{GainCut.bin_step, Palette.{nearest, no_entry}}
use Rattle.sixel_palette.specs.Refined.{sum_to, opaque_bins, opaque_number}
use Rattle.sixel_palette.specs.{Spread.near_number}
use Rattle.sixel_palette.specs.{inside.Assignment.IsWeighed, inside.Codes.{color_of, IsPixelWord}}
use Rattle.sixel_palette.specs.inside.Counts.{dot, AreCounts, counted_error}
use Rattle.sixel_palette.specs.{inside.Nearest.AreNearest, inside.Refinement.near_count}
use Rattle.sixel_palette.specs.inside.Sums.{counted_pixels}
use Rattle.sixel_palette.proofs.{nearest_entries.Nearest.nearest-cap, refinement.Sums.sum_to-part}
use Rattle.sixel_palette.proofs.refinement.Sums.{sum_to-run, sum_to-same, sum_to-set, sum_to-zero}
pub use Rattle.sixel_palette.proofs.refinement.Sums.{sum_to-more}

-- as many as the number of pixels are opaque, at most
opaque-le : (pixels : List ℕ) (n : ℕ) → sum_to (opaque_number (λ _. 1) pixels) n ≤ n
unfolding sum_to
opaque-le pixels zero = omega arith
opaque-le pixels (suc n) = grind (arith, nat_tests, opaque-le pixels n)

-- each count once
counts-once : (counts : List ℕ) (n : ℕ) → n ≤ length counts
    → sum_to (λ k. get_or counts k 0 * 1) n ≡ sum (take n counts)
unfolding sum_to
counts-once counts zero l = refl
counts-once counts (suc n) l =
    let next : suc n ≡ n + 1 = omega arith in
    let more = sum_by_more (λ x. x) counts n 0 (omega arith) in
    let all = sum_to-more (λ k. get_or counts k 0 * 1) n in
    rw next (omega (arith, counts-once counts n (omega arith)))

-- the counts add up to the number of their pixels
pub counted-all : (codes counts : List ℕ) → length counts ≡ length codes
    → sum counts ≡ (counted_pixels codes counts).sum (λ _. 1)
counted-all codes counts same =
    let once = counts-once counts (length counts) (omega arith) in
    grind (arith, same, take_all)

-- so the number of opaque pixels
pub counts-sum : (pixels codes counts : List ℕ) (n : ℕ) → AreCounts pixels codes counts n
    → sum counts ≡ sum_to (opaque_number (λ _. 1) pixels) n
counts-sum pixels codes counts n h = counted-all codes counts h.same ∙ h.sums (λ _. 1)

-- there are no more pixels than there are
pub weighed_from_counts : (pixels codes counts : List ℕ)
    → AreCounts pixels codes counts (length pixels / 4) → length pixels / 4 ≤ area_limit
    → IsWeighed codes counts
weighed_from_counts pixels codes counts h area =
    record {
      same = h.same;
      few =
          omega (
            arith,
            counts-sum pixels codes counts (length pixels / 4) h,
            opaque-le pixels (length pixels / 4),
          );
    }

-- numbers of at most m, each as often as it is counted
counted-le : (counts : List ℕ) (f : ℕ → ℕ) (m n : ℕ) → ((k : ℕ) → f k ≤ m) → n ≤ length counts
    → sum_to (λ k. get_or counts k 0 * f k) n ≤ m * sum (take n counts)
unfolding sum_to
counted-le counts f m zero h l = omega arith
counted-le counts f m (suc n) h l =
    let next : suc n ≡ n + 1 = omega arith in
    let more = sum_by_more (λ x. x) counts n 0 (omega arith) in
    let le = mul-le-mul_left (get_or counts n 0) (h n) in
    let all = sum_to-more (λ k. get_or counts k 0 * f k) n in
    rw (next, more) (omega (arith, counted-le counts f m n h (omega arith)))

-- the error is at most that of the greatest image with no entry
pub error-small : (entries : List (List ℕ)) (codes counts : List ℕ) → IsWeighed codes counts
    → counted_error entries codes counts ≤ no_entry * area_limit
error-small entries codes counts h =
    let le =
    counted-le counts (λ k. nearest entries (color_of (get_or codes k 0))) no_entry (length codes)
    (λ k. nearest-cap entries _) (omega (arith, h.same)) in
    grind (arith, h.few, take_all)

-- the error by the squared distances of nearest entries
pub error_is : (entries : List (List ℕ)) (codes counts squares indices : List ℕ)
    → length counts ≡ length codes → AreNearest entries codes squares indices
    → dot counts squares ≡ counted_error entries codes counts
error_is entries codes counts squares indices same near =
    rw same (sum_to-same _ _ (length codes) (λ k l. ap (λ x. get_or counts k 0 * x) (near k l).gap))

-- so are the pixels that are near to their entries
pub near_is : (entries : List (List ℕ)) (codes counts squares indices : List ℕ)
    → length counts ≡ length codes → AreNearest entries codes squares indices
    → sum_to (λ k. near_count (get_or counts k 0) (get_or squares k 0)) (length counts)
    ≡ (counted_pixels codes counts).sum (near_number entries)
near_is entries codes counts squares indices same near =
    rw same (sum_to-same _ _ (length codes)
    (λ k l. ap (near_count (get_or counts k 0)) (near k l).gap))

-- no pixel is counted yet
pub counts_none : (pixels codes counts : List ℕ) → counts ≡ replicate (length codes) 0
    → AreCounts pixels codes counts 0
unfolding sum_to
counts_none pixels codes counts e = record {
  same = rw e (length-replicate (length codes) 0);
  sums = λ number. grind (arith, nat_tests, sum_to-zero, get_or-replicate);
}

-- transparent pixels of a word, in a row, are not counted
pub counts_hidden : (pixels codes counts : List ℕ) (pixel n word : ℕ)
    → ((k : ℕ) → pixel ≤ k → k < pixel + n → IsPixelWord pixels k word) → word % 256 < 128
    → AreCounts pixels codes counts pixel → AreCounts pixels codes counts (pixel + n)
counts_hidden pixels codes counts pixel n word same hidden h = record {
  same = h.same;
  sums = λ number.
      let more =
      sum_to-run (opaque_number number pixels) 0 pixel n
      (λ k l. grind (arith, nat_tests, same (pixel + k))) in
      omega (arith, h.sums number);
}

-- opaque pixels of a word, in a row, are counted for the code of their color
pub counts_run : (pixels codes counts : List ℕ) (pixel n word position x : ℕ)
    → ((k : ℕ) → pixel ≤ k → k < pixel + n → IsPixelWord pixels k word) → 128 ≤ word % 256
    → position < length codes → get_or codes position 0 ≡ word / 256
    → x ≡ get_or counts position 0 + n → AreCounts pixels codes counts pixel
    → AreCounts pixels codes (set counts position x) (pixel + n)
counts_run pixels codes counts pixel n word position x same opaque within code e h = record {
  same = omega (arith, h.same, length-set counts position x);
  sums = λ number.
      let own = number (color_of (get_or codes position 0)) in
      let more =
      sum_to-run (opaque_number number pixels) own pixel n
      (λ k l. grind (arith, nat_tests, same (pixel + k))) in
      let here =
      sum_to-set (λ k. get_or counts k 0 * number (color_of (get_or codes k 0)))
      (λ k. get_or (set counts position x) k 0 * number (color_of (get_or codes k 0))) position
      (n * own) (length codes) within (λ k o. grind (arith, get_or-set_other))
      (rw (get_or-set_same counts position x 0 (omega (arith, h.same)), e) (omega arith)) in
      omega (arith, h.sums number);
}

-- a count is at most the number of pixels so far
pub count-le : (pixels codes counts : List ℕ) (count position : ℕ) → position < length codes
    → AreCounts pixels codes counts count → get_or counts position 0 ≤ count
count-le pixels codes counts count position within h =
    let f : ℕ → ℕ = λ k. get_or counts k 0 * 1 in
    omega (
      arith,
      sum_to-more f position,
      sum_to-part f (position + 1) (length codes) (omega arith),
      h.sums (λ _. 1),
      opaque-le pixels count,
    )

-- the pixels of the codes are the opaque pixels
pub pixels_from_counts : (pixels codes counts : List ℕ)
    → AreCounts pixels codes counts (length pixels / 4)
    → counted_pixels codes counts ≡ opaque_bins pixels (length codes)
pixels_from_counts pixels codes counts h = λ i.
    record { sum = λ number. h.sums number i; step = bin_step (length codes) }
