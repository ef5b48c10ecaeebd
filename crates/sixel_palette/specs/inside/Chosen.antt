-- A palette that was chosen, in terms of the distinct codes and of the color that would be the next
-- entry. The rules of palettes follow from it.
use Rattle.std.specs.Prelude.{◌≡◌, ℕ, ◌<◌, ◌≤◌, min, List, [], ◌∷◌, ◌++◌, length}
use Rattle.sixel_palette.specs.declared.palette.PaletteChoice.{PaletteChoice}
use Rattle.sixel_palette.specs.Palette.{nearest, IsFarthest, IsFarthestFirst}
use Rattle.sixel_palette.specs.inside.Codes.{AreShownCodes, IsListed}

-- the entries are chosen among the image's colors, with this much room, and the error and the
-- witnesses are theirs
pub record IsChosen (pixels : List ℕ) (room : ℕ) (choice : PaletteChoice) : Type 0 where
  pub codes : List ℕ
  pub far : List ℕ
  pub are : AreShownCodes pixels codes
  pub order : IsFarthestFirst (IsListed codes) choice.colors.items
  pub size : length choice.colors.items ≡ min room (length codes)
  pub farthest : 0 < length codes → IsFarthest (IsListed codes) choice.colors.items far
  pub error_none : length codes ≡ 0 → choice.error ≡ 0
  pub error_some : 0 < length codes → choice.error ≡ nearest choice.colors.items far
  pub witnesses_none : length codes ≤ length choice.colors.items → choice.witnesses.items ≡ []
  pub witnesses_some : length choice.colors.items < length codes
      → choice.witnesses.items ≡ choice.colors.items ++ far ∷ []
