-- Buckets: their bounding boxes, and the farthest color of all.
use Rattle.std.proofs.Common.{◌≡◌, ℕ, ◌+◌, ◌*◌, ◌/◌, ◌<◌, ◌≤◌, min, List, length, get_or, take}
use Rattle.std.proofs.{Common.{drop, arith}, lemmas.Bool.Decides.nat_tests}
use Rattle.sixel_palette.specs.declared.palette.buckets.Interval.{Interval}
use Rattle.sixel_palette.specs.{declared.palette.buckets.Bucket.Bucket, inside.Codes.color_of}
use Rattle.sixel_palette.specs.{inside.Codes.AreColorCodes, inside.Buckets.{channel, IsInInterval}}
use Rattle.sixel_palette.specs.inside.Buckets.{IsInBox, IsInBucket, AreBuckets, IsFirstGreatest}
use Rattle.sixel_palette.proofs.colors.Lists.{part_at, length-part}

-- an empty bucket
abbrev pub none : Bucket
none = record {
  red = record { low = 0; high = 0 };
  green = record { low = 0; high = 0 };
  blue = record { low = 0; high = 0 };
  greatest = 0;
}

-- no bucket has a greater number, and those before this one have lesser ones
pub record IsFirstBucket (buckets : List Bucket) (greatest best : ℕ) : Type 0 where
  pub upper : (j : ℕ) → j < length buckets → (get_or buckets j none).greatest ≤ greatest
  pub first : (j : ℕ) → j < best → (get_or buckets j none).greatest < greatest

-- a code of a part is one of the whole
interval_of_part : (codes : List ℕ) (start n unit : ℕ) (interval : Interval)
    → start + n ≤ length codes
    → ((k : ℕ) → k < length (take n (drop start codes))
    → IsInInterval interval (channel unit (get_or (take n (drop start codes)) k 0))) → (k : ℕ)
    → start ≤ k
    → k < start + n → IsInInterval interval (channel unit (get_or codes k 0))
interval_of_part codes start n unit interval within all k l m = grind (arith, part_at, length-part)

-- the intervals of its codes make a box round the colors of a bucket
pub box_from_intervals : (codes : List ℕ) (bucket n : ℕ) (red green blue : Interval) (greatest : ℕ)
    → AreColorCodes codes → 64 * bucket + n ≡ min (length codes) (64 * bucket + 64)
    → ((k : ℕ) → k < length (take n (drop (64 * bucket) codes))
    → IsInInterval red (channel 65536 (get_or (take n (drop (64 * bucket) codes)) k 0)))
    → ((k : ℕ) → k < length (take n (drop (64 * bucket) codes))
    → IsInInterval green (channel 256 (get_or (take n (drop (64 * bucket) codes)) k 0)))
    → ((k : ℕ) → k < length (take n (drop (64 * bucket) codes))
    → IsInInterval blue (channel 1 (get_or (take n (drop (64 * bucket) codes)) k 0))) → (k : ℕ)
    → IsInBucket codes bucket k
    → IsInBox (record { red = red; green = green; blue = blue; greatest = greatest })
    (color_of (get_or codes k 0))
unfolding color_of
box_from_intervals codes bucket n red green blue greatest small end r g b k i =
    let code = small k 0 i.within in
    let within : k < 64 * bucket + n = omega (arith, i.to, i.within) in
    let few : 64 * bucket + n ≤ length codes = omega arith in
    let in_red = interval_of_part codes (64 * bucket) n 65536 red few r k i.from within in
    let in_green = interval_of_part codes (64 * bucket) n 256 green few g k i.from within in
    let in_blue = interval_of_part codes (64 * bucket) n 1 blue few b k i.from within in
    grind (arith, nat_tests)

-- no number is above the greatest of the buckets'
below_best : (codes squares : List ℕ) (buckets : List Bucket) (greatest best k : ℕ)
    → AreBuckets codes squares buckets → IsFirstBucket buckets greatest best → k < length codes
    → get_or squares k 0 ≤ greatest
below_best codes squares buckets greatest best k h first l =
    let within : k / 64 < length buckets = omega (arith, h.all) in
    grind (arith, nat_tests, h.each (k / 64) none within, first.upper (k / 64))

-- before the first bucket with the greatest each number is below it
before_best : (codes squares : List ℕ) (buckets : List Bucket) (greatest best k : ℕ)
    → AreBuckets codes squares buckets → IsFirstBucket buckets greatest best → k < length codes
    → k < 64 * best → get_or squares k 0 < greatest
before_best codes squares buckets greatest best k h first l m =
    let within : k / 64 < length buckets = omega (arith, h.all) in
    grind (arith, nat_tests, h.each (k / 64) none within, first.first (k / 64))

-- the first position in that bucket with the greatest number is the first of all
pub first_greatest : (codes squares : List ℕ) (buckets : List Bucket) (greatest best farthest : ℕ)
    → length squares ≡ length codes → AreBuckets codes squares buckets
    → IsFirstBucket buckets greatest best → farthest < length codes
    → ((k : ℕ) → 64 * best ≤ k → k < farthest → get_or squares k 0 < greatest)
    → greatest ≤ get_or squares farthest 0 → IsFirstGreatest squares farthest
first_greatest codes squares buckets greatest best farthest same h first within before reached =
    grind (arith, nat_tests, below_best, before_best)
