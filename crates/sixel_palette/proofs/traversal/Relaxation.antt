-- Relaxing distances by one more entry: in a bucket, in all buckets, and in one that is too far.
use Rattle.std.proofs.Common.{◌≡◌, ◌≢◌, ◌⊎◌, inr, ℕ, ◌+◌, ◌*◌, ◌<◌, ◌≤◌, min, max, List, [], ◌∷◌}
use Rattle.std.proofs.Common.{◌++◌, length, get_or, set, refl, ⊎_elim, arith}
use Rattle.std.proofs.{lemmas.Bool.cases_lt, lemmas.Bool.Decides.nat_tests}
use Rattle.std.proofs.lemmas.List.{get_or-set_same, get_or-set_other, length-set}
use Rattle.sixel_palette.specs.{Palette.distance, declared.palette.buckets.Bucket.Bucket}
use Rattle.sixel_palette.specs.declared.palette.nearest_entry.NearestEntry.{NearestEntry}
use Rattle.sixel_palette.specs.inside.Buckets.{IsInBox, IsInBucket, IsGreatestIn, IsBucket}
use Rattle.sixel_palette.specs.inside.Buckets.{AreBuckets, AreNearestIn, IsSameOutside}
use Rattle.sixel_palette.specs.{inside.Codes.color_of, inside.Nearest.{IsNearestEntry, AreNearest}}
use Rattle.sixel_palette.specs.inside.Nearest.{nearest_at}
use Rattle.sixel_palette.proofs.nearest_entries.NearestEntry.{near_kept}

-- the distances of the colors at these positions are relaxed by the entries
abbrev pub AreRelaxedIn : List (List ℕ) → List ℕ → List ℕ → List ℕ → ℕ → ℕ → Type 0
AreRelaxedIn entries codes squares indices from to =
    (k : ℕ) → from ≤ k → k < to → k < length codes
    → IsNearestEntry entries (color_of (get_or codes k 0)) (nearest_at squares indices k)

-- the numbers before and after these positions are the old ones
pub record AreOld (old new : List ℕ) (from to : ℕ) : Type 0 where
  pub before : (k : ℕ) → k < from → get_or new k 0 ≡ get_or old k 0
  pub after : (k : ℕ) → to ≤ k → get_or new k 0 ≡ get_or old k 0

-- the number is the greatest of a sequence at these positions, 0 if there are none
pub record IsGreatestOf (f : ℕ → ℕ) (from to greatest : ℕ) : Type 0 where
  pub upper : (k : ℕ) → from ≤ k → k < to → f k ≤ greatest
  pub reached : (to ≤ from × greatest ≡ 0)
      ⊎ ((k : ℕ) × (from ≤ k) × (k < to) × (f k ≡ greatest))

-- a write keeps the numbers before it
pub get_or-set_before : (xs : List ℕ) (at x k : ℕ) → k < at
    → get_or (set xs at x) k 0 ≡ get_or xs k 0
get_or-set_before xs at x k l = let other : k ≢ at = omega arith in rw get_or-set_other refl

-- a write keeps the numbers after it
get_or-set_after : (xs : List ℕ) (at x k : ℕ) → at < k → get_or (set xs at x) k 0 ≡ get_or xs k 0
get_or-set_after xs at x k l = let other : k ≢ at = omega arith in rw get_or-set_other refl

-- one more position is written
pub old_more : (old new : List ℕ) (from at x : ℕ) → from ≤ at → AreOld old new from at
    → AreOld old (set new at x) from (at + 1)
old_more old new from at x l h = grind (arith, nat_tests, get_or-set_before, get_or-set_after)

-- the distance of one more color is relaxed
pub relaxed_more :
    (entries : List (List ℕ)) (codes squares indices : List ℕ) (from at : ℕ) (near : NearestEntry)
    → at < length squares → at < length indices → AreRelaxedIn entries codes squares indices from at
    → IsNearestEntry entries (color_of (get_or codes at 0)) near
    → AreRelaxedIn entries codes (set squares at near.squared) (set indices at near.index) from
    (at + 1)
relaxed_more entries codes squares indices from at near l m before here =
    grind (arith, nat_tests, get_or-set_before, get_or-set_same)

-- the greatest of one more
pub greatest_more : (f g : ℕ → ℕ) (from at greatest x : ℕ) → from ≤ at → g at ≡ x
    → ((k : ℕ) → k < at → g k ≡ f k) → IsGreatestOf f from at greatest
    → IsGreatestOf g from (at + 1) (max x greatest)
greatest_more f g from at greatest x l here same h = record {
  upper = λ k m t. grind (arith, nat_tests, same k, h.upper k);
  reached = inr (⊎_elim (λ b. ⊎_elim (λ n. (at, l, omega arith, omega (arith, here, n.1)))
      (λ r. (r.0, r.1, omega (arith, r.2), omega (arith, same r.0 r.2, r.3, b))) h.reached)
      (λ b. (at, l, omega arith, omega (arith, here, b))) (cases_lt x greatest));
}

-- the greatest at a bucket's positions is that of the bucket
pub greatest_in : (codes squares : List ℕ) (bucket end greatest : ℕ)
    → end ≡ min (length codes) (64 * bucket + 64) → 64 * bucket < length codes
    → IsGreatestOf (λ k. get_or squares k 0) (64 * bucket) end greatest
    → IsGreatestIn codes squares bucket greatest
greatest_in codes squares bucket end greatest e some h = grind (arith, nat_tests)

-- a bucket whose numbers stay the same stays the same
bucket_same : (codes squares new : List ℕ) (j : ℕ) (bucket : Bucket)
    → IsBucket codes squares j bucket
    → ((k : ℕ) → IsInBucket codes j k → get_or new k 0 ≡ get_or squares k 0)
    → IsBucket codes new j bucket
bucket_same codes squares new j bucket h same = grind (arith, nat_tests, same)

-- the distances of one bucket are relaxed
pub buckets_relaxed :
    (codes squares new : List ℕ) (buckets : List Bucket) (position greatest : ℕ) (bucket : Bucket)
    → position < length buckets → AreBuckets codes squares buckets
    → IsSameOutside position squares new
    → IsBucket codes squares position bucket → IsGreatestIn codes new position greatest
    → AreBuckets codes new (set buckets position
    (record { red = bucket.red; green = bucket.green; blue = bucket.blue; greatest = greatest }))
buckets_relaxed codes squares new buckets position greatest bucket l h others here relaxed =
    let made : Bucket = record {
      red = bucket.red;
      green = bucket.green;
      blue = bucket.blue;
      greatest = greatest;
    } in
    let size = length-set buckets position made in
    let own : IsBucket codes new position made = grind (arith, nat_tests, here.box) in
    record {
      all = omega (arith, h.all);
      each = λ j d m.
          let each = h.each j d (omega arith) in
          let old = bucket_same codes squares new j (get_or buckets j d) each in
          grind (arith, nat_tests, others, get_or-set_same, get_or-set_other);
    }

-- the colors so far and those of one more bucket
pub relaxed_bucket : (entries : List (List ℕ)) (codes squares new indices moved : List ℕ)
    (position : ℕ)
    → AreRelaxedIn entries codes squares indices 0 (64 * position)
    → IsSameOutside position squares new
    → IsSameOutside position indices moved → AreNearestIn entries codes new moved position
    → AreRelaxedIn entries codes new moved 0 (64 * (position + 1))
relaxed_bucket entries codes squares new indices moved position before others also here =
    grind arith

-- the numbers after one more bucket are the old ones
pub old_bucket : (old new next : List ℕ) (position : ℕ) → AreOld old new 0 (64 * position)
    → IsSameOutside position new next → AreOld old next 0 (64 * (position + 1))
old_bucket old new next position h others = grind (arith, nat_tests)

-- the nearest entries of a bucket that was not written to
pub nearest_still : (entries : List (List ℕ)) (codes old squares first indices : List ℕ)
    (position : ℕ)
    → AreOld old squares 0 (64 * position) → AreOld first indices 0 (64 * position)
    → AreNearest entries codes old first → AreNearestIn entries codes squares indices position
nearest_still entries codes old squares first indices position h g kept k i = grind arith

-- a bucket whose box is far enough: the new entry is no nearer
pub nearest_far :
    (entries : List (List ℕ)) (color codes squares indices : List ℕ) (position : ℕ)
    (bucket : Bucket) → IsBucket codes squares position bucket
    → ((c : List ℕ) → IsInBox bucket c → bucket.greatest ≤ distance color c)
    → AreNearestIn entries codes squares indices position
    → AreNearestIn (entries ++ color ∷ []) codes squares indices position
nearest_far entries color codes squares indices position bucket h box kept k i =
    near_kept entries color (color_of (get_or codes k 0)) (nearest_at squares indices k)
    (omega (arith, h.greatest.upper k i, box (color_of (get_or codes k 0)) (h.box k i))) (kept k i)
