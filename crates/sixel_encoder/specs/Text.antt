-- The SIXEL text of a drawing: an image whose pixels are entries of a palette or nothing. By DEC's
-- device control string of sixel data: raster attributes, color introducers in percent of red,
-- green and blue, then bands of six rows, one row of sixels per entry in use.
use Rattle.std.specs.{List.{range_with_len, list_any}, Prelude.{ℕ, zero, suc, ◌+◌, ◌*◌, ◌/◌, ◌^◌}}
use Rattle.std.specs.Prelude.{◌==◌, Bool, false, not, if◌then◌else◌, List, [], ◌∷◌, ◌++◌, length}
use Rattle.std.specs.Prelude.{map, slice_index, slice_index_or, Option, Some, None, codes, decimal}
use Rattle.sixel_base.specs.declared.settings.BackgroundMode.{BackgroundMode}
use Rattle.sixel_base.specs.declared.settings.PixelAspectRatio.{PixelAspectRatio}
use Rattle.sixel_base.specs.{Picture.joined, Settings.{p1_of, p2_of, pad_of}}
use Rattle.sixel_palette.specs.Refined.{percentage}
use Rattle.sixel_encoder.specs.RunTokens.{written, row_tokens}

-- sizes, shape and background of an image, the colors of its palette in order, and the entry of
-- each pixel, row by row, or nothing
pub record Drawing : Type 0 where
  pub width : ℕ
  pub height : ℕ
  pub aspect_ratio : PixelAspectRatio
  pub background_mode : BackgroundMode
  pub colors : List (List ℕ)
  pub entries : List (Option ℕ)

-- the entry of a pixel, nothing below the last row
abbrev pub entry_at : Drawing → ℕ → ℕ → Option ℕ
entry_at drawing column row = slice_index_or drawing.entries (row * drawing.width + column) None

-- whether a pixel has this entry
abbrev pub is_entry : ℕ → Option ℕ → Bool
is_entry entry None = false
is_entry entry (Some other) = other == entry

-- the number whose bits are what a test says of 0, 1, .. up to before n
unfoldable pub mask : (ℕ → Bool) → ℕ → ℕ
mask test zero = 0
mask test (suc n) = mask test n + (if test n then 2 ^ n else 0)

-- the sixel of a band's column for an entry: a bit for each of six rows, the least for the top one
abbrev pub sixel_of : Drawing → ℕ → ℕ → ℕ → ℕ
sixel_of drawing band entry column =
    mask (λ bit. is_entry entry (entry_at drawing column (6 * band + bit))) 6

-- the sixels of a band for an entry
abbrev pub row_of : Drawing → ℕ → ℕ → List ℕ
row_of drawing band entry = map (sixel_of drawing band entry) (range_with_len 0 drawing.width)

-- whether some sixel of a row sets a pixel
abbrev pub has_dot : List ℕ → Bool
has_dot row = list_any (λ bits. not (bits == 0)) row

-- how many bands of six rows there are, the last perhaps cut off
abbrev pub bands : ℕ → ℕ
bands height = (height + 5) / 6

-- the introducer and the parameters, the third of which is always 0
abbrev pub parameters_text : Drawing → List ℕ
parameters_text drawing =
    27 ∷ codes "P" ++ decimal (p1_of drawing.aspect_ratio) ++ codes ";"
    ++ decimal (p2_of drawing.background_mode) ++ codes ";0q"

-- the raster attributes: how high and wide a pixel is, then the sizes
abbrev pub raster_text : Drawing → List ℕ
raster_text drawing =
    codes "\"" ++ decimal (pad_of drawing.aspect_ratio) ++ codes ";1;" ++ decimal drawing.width
    ++ codes ";" ++ decimal drawing.height

-- the definition of an entry as a color, in percent
abbrev pub color_definition : ℕ → List ℕ → List ℕ
color_definition entry color =
    codes "#" ++ decimal entry ++ codes ";2;" ++ decimal (percentage (slice_index color 0))
    ++ codes ";"
    ++ decimal (percentage (slice_index color 1)) ++ codes ";"
    ++ decimal (percentage (slice_index color 2))

-- the definition of a palette entry
abbrev pub definition_text : Drawing → ℕ → List ℕ
definition_text drawing entry = color_definition entry (slice_index_or drawing.colors entry [])

-- a row of an entry: the entry, its sixels, and back to the left
abbrev pub row_text : ℕ → List ℕ → List ℕ
row_text entry row = codes "#" ++ decimal entry ++ written (row_tokens row) ++ codes "$"

-- the row of an entry in a band, where the entry is used there
abbrev pub entry_text : Drawing → ℕ → ℕ → List ℕ
entry_text drawing band entry =
    if has_dot (row_of drawing band entry) then row_text entry (row_of drawing band entry) else []

-- a band: the rows of the entries used in it, and down to the next
abbrev pub band_text : Drawing → ℕ → List ℕ
band_text drawing band = joined (entry_text drawing band) (length drawing.colors) ++ codes "-"

-- the definitions of the palette
abbrev pub palette_text : Drawing → List ℕ
palette_text drawing = joined (definition_text drawing) (length drawing.colors)

-- the bands
abbrev pub bands_text : Drawing → List ℕ
bands_text drawing = joined (band_text drawing) (bands drawing.height)

-- the whole text, ended by the string terminator
abbrev pub text_of : Drawing → List ℕ
text_of drawing =
    parameters_text drawing ++ raster_text drawing ++ palette_text drawing ++ bands_text drawing
    ++ 27 ∷ codes "\\"
