-- Colors that lie apart, and the bound that they prove for all palettes of a size. It follows from
-- the triangle rule: the squared distance of two colors that share an entry is at most twice the
-- sum of their squared distances to it.
use Rattle.std.specs.Prelude.{◌≡◌, ℕ, ◌*◌, ◌<◌, ◌≤◌, List, length, slice_index_or, All, AllPairs}
use Rattle.sixel_palette.specs.Palette.{distance}

-- every two of the colors have at least this squared distance
abbrev pub AreApart : List (List ℕ) → ℕ → Type 0
AreApart colors least = AllPairs (λ a b. least ≤ distance a b) colors

-- whatever list of at most n colors one takes, their channels any whole numbers: some member of the
-- set has to each of them a squared distance whose fourfold is at least the number
abbrev pub NoListIsBetter : (List ℕ → Type 0) → ℕ → ℕ → Type 0
NoListIsBetter Member n least =
    (others : List (List ℕ)) → length others ≤ n
    → (c : List ℕ) × Member c × All (λ p. least ≤ 4 * distance c p) others

-- the number is the least squared distance of two of the colors, 0 if there are not two
pub record IsLeastApart (colors : List (List ℕ)) (least : ℕ) : Type 0 where
  pub apart : AreApart colors least
  pub none : length colors < 2 → least ≡ 0
  pub reached : (d : List ℕ) → 2 ≤ length colors → (i j : ℕ) × (i < j) × (j < length colors)
      × (distance (slice_index_or colors i d) (slice_index_or colors j d) ≡ least)
