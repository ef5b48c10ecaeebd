-- Error diffusion in a palette of grays: what its errors are, and what bounds them.
use Rattle.std.specs.{Int.abs_diff, Prelude.{◌≡◌, ℕ, true, List, [], length, slice_index}}
use Rattle.std.specs.Prelude.{slice_index_or}
use Rattle.sixel_palette.specs.{Dithering.{Mapped, errors_of, target_of_visit}, Gray.are_gray}
use Rattle.sixel_palette.specs.{Gray.is_gray, Palette.color_at}

-- grays that are mapped to a palette of grays
pub record AreGrays (m : Mapped) : Type 0 where
  pub pixels : (pixel : ℕ) → is_gray (color_at m.pixels pixel) ≡ true
  pub colors : are_gray m.colors (length m.colors) ≡ true

-- the level of a gray entry
abbrev pub entry_level : Mapped → ℕ → ℕ
entry_level m entry = slice_index (slice_index_or m.colors entry []) 0

-- the level of the gray that is the target of a visit
abbrev pub target_level : Mapped → List ℕ → ℕ → ℕ
target_level m indices n = slice_index (target_of_visit m (errors_of m indices n) n) 0

-- the difference of an entry and the target of a visit
abbrev pub level_gap : Mapped → List ℕ → ℕ → ℕ → ℕ
level_gap m indices n entry = abs_diff (entry_level m entry) (target_level m indices n)
