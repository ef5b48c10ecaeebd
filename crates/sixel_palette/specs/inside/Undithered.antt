-- How code sees the pixel of an undithered image whose entry is chosen.
use Rattle.std.specs.Prelude.{◌≡◌, ℕ, ◌+◌, ◌*◌, ◌/◌, ◌<◌, ◌≤◌, length}
use Rattle.sixel_palette.specs.{Palette.AreIndices, Undithered.{Undithered, cost}}
use Rattle.sixel_palette.specs.declared.dithering.undithered.Choice.{Choice}
use Rattle.sixel_palette.specs.declared.dithering.undithered.Priced.{Priced}
use Rattle.sixel_palette.specs.inside.Mapped.{AreEntries}

-- its image, apart from where that lies
abbrev pub choice_value : Choice → Undithered
choice_value c = record {
  width = c.image.now.width;
  pixels = c.image.now.pixels.now;
  colors = c.image.now.colors.now;
  price = c.image.now.tolerance;
  nearest = c.nearest.now;
  chosen = c.chosen.now;
}

-- the pixel lies in a whole row, and each opaque pixel has an entry
pub record IsChoice (u : Undithered) (column row : ℕ) : Type 0 where
  pub across : column < u.width
  pub down : row * u.width + u.width ≤ length u.pixels / 4
  pub nearest : AreIndices u.pixels u.colors u.nearest
  pub size : length u.chosen ≡ length u.pixels / 4
  pub entries : AreEntries u.colors u.chosen

-- an entry and its cost
pub record IsPriced (u : Undithered) (column row : ℕ) (priced : Priced) : Type 0 where
  pub entry : priced.index < length u.colors
  pub cost : priced.cost ≡ cost u column row priced.index
