-- What `draw` writes for the image of a file: its SIXEL output in a refined palette or in that of a
-- palette file, in the compact form. The defaults are this program's own.
use Rattle.std.specs.{List.range_with_len, Option.unwrap_or, Prelude.{◌≡◌, ◌⊎◌, ◌/◌, ℕ, List, []}}
use Rattle.std.specs.Prelude.{length, map, max, min, Option, Err, MatchOption, None, Ok, Result}
use Rattle.std.specs.Prelude.{Some}
use Rattle.sixel.specs.Ending.{Ending, Done, Refused, Unreadable}
use Rattle.sixel.specs.declared.draw.options.DrawPalette.{DrawPalette}
use Rattle.sixel.specs.declared.draw.options.DrawPalette.TheVariants.{Standard, Refined, File}
use Rattle.sixel.specs.{declared.netpbm.error.NetpbmError.NetpbmError, netpbm.Image.image_of}
use Rattle.sixel_base.specs.{CallFault.{CallFault, IsCallFault}, Payload.Image}
use Rattle.sixel_base.specs.declared.error.SixelError.TheVariants.{OutOfMemory}
use Rattle.sixel_palette.specs.{Palette.color_at, declared.mapping.Mapping.Mapping}
use Rattle.sixel_encoder.specs.IndexedDrawing.{IsPaletteText, palette_fault}
use Rattle.sixel_encoder.specs.RefinedText.{IsRefinedText}
use Rattle.sixel_encoder.specs.declared.form.TextForm.TheVariants.{Compact}
use Rattle.sixel.specs.declared.netpbm.error.NetpbmError.TheVariants.{OutOfMemory as NoMemory}

-- What was read has the output of a call: a text, or an error with nothing written. The call is
-- given by its fault and the texts that it can return.
abbrev pub IsDrawn : {X : Type 0} → (X → Option CallFault) → (X → List ℕ → Type 0)
    → Result X NetpbmError → List ℕ → Ending → Type 0
IsDrawn {X} fault IsText read text Done =
    (x : X) × (read ≡ Ok x) × (fault x ≡ None) × IsText x text
IsDrawn {X} fault IsText read text (Refused error) =
    (text ≡ []) × ((error ≡ OutOfMemory) ⊎ ((x : X) × (read ≡ Ok x)
    × MatchOption (fault x) ⊥ (IsCallFault error)))
IsDrawn fault IsText read text (Unreadable error) =
    (text ≡ []) × ((error ≡ NoMemory) ⊎ (read ≡ Err error))

-- ---- a refined palette

-- the most colors for pixels if no option states them: one for 16 pixels, 16 to 256
abbrev pub standard_limit : List ℕ → ℕ
standard_limit pixels = max 16 (min 256 (length pixels / 4 / 16))

-- the most colors for an image: those that an option states, or as many as its pixels allow
abbrev pub color_limit : Option ℕ → Image → ℕ
color_limit max_colors image = unwrap_or max_colors (standard_limit image.pixels)

-- what is wrong with an image that is to be drawn in a refined palette
abbrev pub refined_fault : Option ℕ → Image → Option CallFault
refined_fault max_colors image = palette_fault image (color_limit max_colors image)

-- the output in a refined palette of at most that number of colors
abbrev pub IsRefinedOutput : Option ℕ → Mapping → Result Image NetpbmError → List ℕ → Ending
    → Type 0
IsRefinedOutput max_colors mapping =
    IsDrawn (refined_fault max_colors)
    (λ image. IsRefinedText image (color_limit max_colors image) mapping Compact)

-- ---- the palette of a file

-- the colors of pixels, without their alpha
abbrev pub colors_of : List ℕ → List (List ℕ)
colors_of pixels = map (color_at pixels) (range_with_len 0 (length pixels / 4))

-- the colors of the image that was read from a palette file
abbrev pub colors_read : Result Image NetpbmError → Result (List (List ℕ)) NetpbmError
colors_read (Ok image) = Ok (colors_of image.pixels)
colors_read (Err error) = Err error

-- the colors of a palette file
abbrev pub palette_of : List ℕ → Result (List (List ℕ)) NetpbmError
palette_of file = colors_read (image_of file)

-- an image that is to be drawn in these colors
pub record Painting : Type 0 where
  pub colors : List (List ℕ)
  pub image : Image

-- both files were read, or the first error
abbrev pub painting_read : Result (List (List ℕ)) NetpbmError → Result Image NetpbmError
    → Result Painting NetpbmError
painting_read (Ok colors) (Ok image) = Ok (record { colors = colors; image = image })
painting_read (Ok colors) (Err error) = Err error
painting_read (Err error) image = Err error

-- what is wrong with an image that is to be drawn in these colors
abbrev pub painting_fault : Painting → Option CallFault
painting_fault it = palette_fault it.image (length it.colors)

-- the output in the colors of a palette file
abbrev pub IsPaletteOutput : Mapping → List ℕ → Result Image NetpbmError → List ℕ → Ending → Type 0
IsPaletteOutput mapping file image =
    IsDrawn painting_fault
    (λ it. IsPaletteText it.image it.colors mapping Compact)
    (painting_read (palette_of file) image)

-- ---- any palette

-- the output for what was read by this option, with the bytes of the palette file
abbrev pub IsDrawOutput : DrawPalette → Mapping → List ℕ → Result Image NetpbmError → List ℕ
    → Ending → Type 0
IsDrawOutput Standard mapping file = IsRefinedOutput None mapping
IsDrawOutput (Refined max_colors) mapping file = IsRefinedOutput (Some max_colors) mapping
IsDrawOutput File mapping file = IsPaletteOutput mapping file
