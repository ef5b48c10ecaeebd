-- What a band shows: six rows of cap columns each, one after another in one buffer of pixels, and
-- background from extent on. The layout is this library's own.
use Rattle.std.specs.Prelude.{◌≡◌, ℕ, ◌+◌, ◌-◌, ◌*◌, ◌<◌, ◌≤◌, List, length, slice_index_or}
use Rattle.std.specs.Prelude.{Bool, ◌&&◌, nat_le, nat_lt, if◌then◌else◌}
use Rattle.sixel_base.specs.Picture.{is_set, is_struck}

-- a row of pixels, those from from up to before to in this color
abbrev pub filled : ℕ → ℕ → List ℕ → ℕ → List ℕ → List ℕ
filled from to color i pixel = if nat_le from i && nat_lt i to then color else pixel

-- a pixel of the row of this bit, where four sixels start at place at
abbrev pub mixed_at : ℕ → List ℕ → ℕ → List ℕ → ℕ → List ℕ → List ℕ
mixed_at at sixels bit color i pixel =
    if nat_le at i && nat_lt i (at + 4) && is_set (slice_index_or sixels (i - at) 0) bit then color
    else pixel

-- whether four sixels of one column each, the first at column from, cover the pixel of row k
abbrev pub covers_four : ℕ → List ℕ → ℕ → ℕ → Bool
covers_four from sixels column k =
    nat_le from column && nat_lt column (from + 4)
    && is_struck 0 (slice_index_or sixels (column - from) 0) k

-- the pixel at a column of row k, in rows of cap columns
abbrev pub stored : List (List ℕ) → ℕ → List ℕ → ℕ → ℕ → List ℕ
stored pixels cap background column k = slice_index_or pixels (k * cap + column) background

-- There are six rows of cap columns each, which a band may have.
pub record AreSixRows (pixels : List (List ℕ)) (cap : ℕ) : Type 0 where
  pub few : cap ≤ 1000008
  pub fits : length pixels ≡ 6 * cap

-- Of such rows the covered pixels have this color now, and the others stay.
pub record AreDrawn (old new : List (List ℕ)) (cap : ℕ) (covered : ℕ → ℕ → Bool) (color : List ℕ)
    : Type 0 where
  pub len : length new ≡ length old
  pub drawn : (background : List ℕ) (column k : ℕ) → column < cap → k < 6
      → stored new cap background column k
      ≡ (if covered column k then color else stored old cap background column k)

-- the color of columns that nothing was drawn on, the six rows, how many columns each has, and from
-- which column on they are background
pub record BandState : Type 0 where
  pub background : List ℕ
  pub pixels : List (List ℕ)
  pub cap : ℕ
  pub extent : ℕ

-- the band with these parts
abbrev pub band_state : List ℕ → List (List ℕ) → ℕ → ℕ → BandState
band_state background pixels cap extent =
    record { background = background; pixels = pixels; cap = cap; extent = extent }

-- the pixel at a column of row k, and background outside the six rows
abbrev pub cell : BandState → ℕ → ℕ → List ℕ
cell band column k =
    if nat_lt column band.cap && nat_lt k 6
    then stored band.pixels band.cap band.background column k
    else band.background

-- what is true of every band
pub record IsBand (band : BandState) : Type 0 where
  pub fits : length band.pixels ≡ 6 * band.cap
  pub few : band.cap ≤ 1000008
  pub reached : band.extent ≤ band.cap
  pub clean : (column k : ℕ) → band.extent ≤ column → cell band column k ≡ band.background
