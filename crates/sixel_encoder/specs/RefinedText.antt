-- The text of an image in a refined palette.
use Rattle.std.specs.Prelude.{◌≡◌, ℕ, ◌+◌, ◌-◌, ◌/◌, ◌<◌, ◌++◌, ◌∷◌, [], List, length, map, max}
use Rattle.std.specs.Prelude.{min, slice_index_or, Some, None}
use Rattle.sixel_base.specs.Payload.{Image}
use Rattle.sixel_base.specs.declared.settings.BackgroundMode.TheVariants.{Opaque}
use Rattle.sixel_palette.specs.{Dithering.{AreDithered, refined_mapping}, Palette.IsOpaque}
use Rattle.sixel_palette.specs.{Palette.color_at, Refined.{IsRefined, opaque_pixels}}
use Rattle.sixel_palette.specs.Spread.{spread_amount, spread_entries}
use Rattle.sixel_palette.specs.declared.{dither.Dither.TheVariants.Off, mapping.Mapping.Mapping}
use Rattle.sixel_palette.specs.declared.mapping.Tolerance.TheVariants.{Squared}
use Rattle.sixel_palette.specs.declared.palette.refined.RefinedPalette.{RefinedPalette}
use Rattle.sixel_encoder.specs.declared.{form.TextForm.TextForm, refined.Background.Background}
use Rattle.sixel_encoder.specs.IndexedDrawing.{IsPaletteText, IsTextOf, indexed_drawing}
use Rattle.sixel_encoder.specs.{Text.Drawing, Trip.trip_pixel}

-- a pixel that has an entry is read back in the very color of the entry
abbrev pub ShowsEntries : Drawing → Type 0
ShowsEntries drawing =
    (entry : ℕ) → entry < length drawing.colors
    → trip_pixel drawing (Some entry) ≡ slice_index_or drawing.colors entry [] ++ 255 ∷ []

-- each opaque pixel of the image is read back in its very color
abbrev pub ShowsPixels : Image → Drawing → Type 0
ShowsPixels image drawing =
    (pixel : ℕ) → pixel < length image.pixels / 4 → IsOpaque image.pixels pixel
    → trip_pixel drawing (slice_index_or drawing.entries pixel None)
    ≡ color_at image.pixels pixel ++ 255 ∷ []

-- each pixel has its nearest entry
abbrev pub no_mapping : Mapping
no_mapping = record { dither = Off; tolerance = Squared 0 }

-- the bytes are the text of the image in a refined palette, spread for this kind of dithering,
-- which a decoder shows unrounded
pub record IsRefinedText (image : Image) (max_colors : ℕ) (mapping : Mapping) (form : TextForm)
    (bytes : List ℕ) : Type 0 where
  pub palette : RefinedPalette
  pub refined : IsRefined image.pixels max_colors palette
  pub colors : List (List ℕ)
  pub spread : colors
      ≡ spread_entries (spread_amount mapping.dither max_colors) (opaque_pixels image.pixels)
      palette.colors.items
  pub text : IsPaletteText image colors (refined_mapping mapping) form bytes
  pub exact : ShowsEntries (indexed_drawing image colors text.indices)

-- how many colors there may be beside a background: at least one
abbrev pub others_of : ℕ → ℕ
others_of max_colors = max (max_colors - 1) 1

-- the index of one of them behind the background: there are at most 255
abbrev pub next_index : ℕ → ℕ
next_index index = min (index + 1) 255

-- the image on an opaque background
abbrev pub on_background : Image → Image
on_background image = record image { background_mode = Opaque }

-- The bytes are the text of the image on a background of its own color, which is entry 0. A pixel
-- has the entry after that of its palette index in a refined palette of the other colors.
pub record IsBackgroundText (image : Image) (background : Background) (mapping : Mapping)
    (form : TextForm) (bytes : List ℕ) : Type 0 where
  pub palette : RefinedPalette
  pub refined : IsRefined image.pixels (others_of background.max_colors) palette
  pub colors : List (List ℕ)
  pub spread : colors
      ≡ spread_entries (spread_amount mapping.dither (others_of background.max_colors))
      (opaque_pixels image.pixels) palette.colors.items
  pub indices : List ℕ
  pub dithered : AreDithered (refined_mapping mapping) image.width image.pixels colors indices
  pub text : IsTextOf form
      (indexed_drawing (on_background image) (background.color ∷ colors) (map next_index indices))
      bytes
