-- How code sees the error of a palette.
use Rattle.std.specs.Prelude.{◌≡◌, ℕ, ◌*◌, ◌≤◌, List}
use Rattle.sixel_palette.specs.Palette.{AreIndices, no_entry}
use Rattle.sixel_palette.specs.Refined.{opaque_pixels, summed_error}
use Rattle.sixel_palette.specs.declared.dithering.mapped.MappedImage.{MappedImage}
use Rattle.sixel_palette.specs.declared.dithering.nearest.Nearest.{Nearest}
use Rattle.sixel_palette.specs.declared.dithering.nearest.Nearest.TheVariants.{Found, Refined}
use Rattle.sixel_palette.specs.declared.dithering.palette_error.PaletteError.{PaletteError}
use Rattle.sixel_palette.specs.inside.Refinement.{IsRefinement}

-- it is the summed error and the number of opaque pixels, each of which has a small error
pub record IsErrorOf (colors : List (List ℕ)) (pixels : List ℕ) (error : PaletteError)
    : Type 0 where
  pub sum : error.sum ≡ summed_error colors pixels
  pub count : error.pixels ≡ opaque_pixels pixels (λ _. 1)
  pub small : error.sum ≤ no_entry * error.pixels

-- these are the palette indices of the pixels' nearest entries, or a refined palette has them
abbrev pub HasNearest : MappedImage → Nearest → Type 0
HasNearest image (Found indices) = AreIndices image.pixels.now image.colors.now indices.items
HasNearest image (Refined refinement) =
    (image.colors.now ≡ refinement.now.entries.colors.items)
    × (room amount : ℕ) × IsRefinement image.pixels.now room amount refinement.now
