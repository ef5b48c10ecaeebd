-- The buckets of a nearest-entry search: 64 colors next to each other in order, their bounding box
-- and their greatest squared distance to a nearest entry. They only save work.
use Rattle.std.specs.Prelude.{◌≡◌, ◌⊎◌, ℕ, ◌+◌, ◌*◌, ◌/◌, ◌%◌, ◌≤◌, ◌<◌, List, length, slice_index}
use Rattle.std.specs.Prelude.{slice_index_or}
use Rattle.sixel_palette.specs.declared.palette.buckets.Bucket.{Bucket}
use Rattle.sixel_palette.specs.declared.palette.buckets.Interval.{Interval}
use Rattle.sixel_palette.specs.inside.{Codes.color_of, Nearest.{IsNearestEntry, nearest_at}}

-- a channel of a code, by the number that one step of it counts
abbrev pub channel : ℕ → ℕ → ℕ
channel unit code = code / unit % 256

-- the value is in the interval
pub record IsInInterval (interval : Interval) (value : ℕ) : Type 0 where
  pub low : interval.low ≤ value
  pub high : value ≤ interval.high

-- the color is in the box
pub record IsInBox (bucket : Bucket) (c : List ℕ) : Type 0 where
  pub red : IsInInterval bucket.red (slice_index c 0)
  pub green : IsInInterval bucket.green (slice_index c 1)
  pub blue : IsInInterval bucket.blue (slice_index c 2)

-- the position is one of this bucket's
pub record IsInBucket (codes : List ℕ) (bucket position : ℕ) : Type 0 where
  pub from : 64 * bucket ≤ position
  pub to : position < 64 * bucket + 64
  pub within : position < length codes

-- the number is the greatest of the bucket's
pub record IsGreatestIn (codes squares : List ℕ) (bucket greatest : ℕ) : Type 0 where
  pub upper : (k : ℕ) → IsInBucket codes bucket k → slice_index squares k ≤ greatest
  pub reached : (k : ℕ) × IsInBucket codes bucket k × (slice_index squares k ≡ greatest)

-- the bucket has this position: its colors lie in the box, and the greatest distance is theirs
pub record IsBucket (codes squares : List ℕ) (position : ℕ) (bucket : Bucket) : Type 0 where
  pub box : (k : ℕ) → IsInBucket codes position k → IsInBox bucket (color_of (slice_index codes k))
  pub greatest : IsGreatestIn codes squares position bucket.greatest

-- the buckets have their positions, and all colors lie in one
pub record AreBuckets (codes squares : List ℕ) (buckets : List Bucket) : Type 0 where
  pub all : length codes ≤ 64 * length buckets
  pub each : (j : ℕ) (d : Bucket) → j < length buckets
      → IsBucket codes squares j (slice_index_or buckets j d)

-- the two lists are those of the nearest entries of the bucket's colors
abbrev pub AreNearestIn : List (List ℕ) → List ℕ → List ℕ → List ℕ → ℕ → Type 0
AreNearestIn entries codes squares indices bucket =
    (k : ℕ) → IsInBucket codes bucket k
    → IsNearestEntry entries (color_of (slice_index codes k)) (nearest_at squares indices k)

-- the numbers outside of a bucket stay
abbrev pub IsSameOutside : ℕ → List ℕ → List ℕ → Type 0
IsSameOutside bucket old new =
    (k : ℕ) → (k < 64 * bucket) ⊎ (64 * bucket + 64 ≤ k) → slice_index new k ≡ slice_index old k

-- the position is the first of those with the greatest number
pub record IsFirstGreatest (squares : List ℕ) (position : ℕ) : Type 0 where
  pub within : position < length squares
  pub greatest : (k : ℕ) → k < length squares → slice_index squares k ≤ slice_index squares position
  pub first : (k : ℕ) → k < position → slice_index squares k < slice_index squares position
