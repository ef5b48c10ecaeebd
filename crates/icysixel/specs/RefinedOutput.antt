-- A refined palette in the caller's memory.
use Rattle.std.specs.Prelude.{◌≡◌, ℕ, ◌/◌, min, List, length, drop, take}
use Rattle.sixel_palette.specs.Refined.{IsRefined}
use Rattle.sixel_palette.specs.declared.palette.refined.RefinedPalette.{RefinedPalette}
use Rattle.icysixel.specs.declared.refine_palette.Refined.{Refined}

-- the buffers begin with a refined palette of the pixels and their indices
pub record IsRefinedOutput (pixels : List ℕ) (max_colors : ℕ) (refined : Refined)
    (colors : List (List ℕ)) (indices : List ℕ) : Type 0 where
  pub palette : RefinedPalette
  pub is_refined : IsRefined pixels max_colors palette
  pub colors_written : take refined.colors colors ≡ palette.colors.items
  pub indices_written : take (length pixels / 4) indices ≡ palette.indices.items
  pub error : refined.error ≡ palette.error

-- how many entries a refined palette has at most
abbrev pub refined_room : ℕ → ℕ
refined_room max_colors = min max_colors 256

-- a buffer is as before from this place on
abbrev pub IsSameAfter : {X : Type 0} → ℕ → List X → List X → Type 0
IsSameAfter place before after = drop place after ≡ drop place before
