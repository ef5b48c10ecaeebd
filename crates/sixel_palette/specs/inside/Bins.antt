-- The bins while colors are added, and the table that finds the last one with a green and a blue.
use Rattle.std.specs.Prelude.{◌≡◌, ℕ, ◌+◌, ◌*◌, ◌<◌, ◌≤◌, false, List, [], map, length, slice_index}
use Rattle.std.specs.Prelude.{slice_index_or}
use Rattle.sixel_palette.specs.{Lloyd.is_corner, declared.palette.bins.Bin.Bin}

-- the corners of bins
abbrev pub corners_of : List Bin → List (List ℕ)
corners_of bins = map (λ bin. bin.corner) bins

-- where the table has the last corner with a green and a blue
abbrev pub slot : List ℕ → ℕ
slot corner = slice_index corner 1 * 64 + slice_index corner 2

-- the corners differ, reds do not fall and are at most this one, and the table finds the last
-- corner with a green and a blue
pub record IsTable (corners : List (List ℕ)) (positions : List ℕ) (red : ℕ) : Type 0 where
  pub small : (k : ℕ) → k < length corners
      → (slice_index (slice_index_or corners k []) 1 < 64)
      × (slice_index (slice_index_or corners k []) 2 < 64)
  pub low : (k : ℕ) → k < length corners → slice_index (slice_index_or corners k []) 0 ≤ red
  pub rising : (i j : ℕ) → i ≤ j → j < length corners
      → slice_index (slice_index_or corners i []) 0 ≤ slice_index (slice_index_or corners j []) 0
  pub distinct : (i j : ℕ) → i < j → j < length corners
      → is_corner (slice_index_or corners i []) (slice_index_or corners j []) ≡ false
  pub last : (k : ℕ) → k < length corners
      → k ≤ slice_index positions (slot (slice_index_or corners k []))
  pub within : (k : ℕ) → k < length corners
      → slice_index positions (slot (slice_index_or corners k [])) < length corners
  pub found : (k : ℕ) → k < length corners
      → slot (slice_index_or corners (slice_index positions
      (slot (slice_index_or corners k []))) [])
      ≡ slot (slice_index_or corners k [])
