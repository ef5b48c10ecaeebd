-- How C says that an image is encoded, and what the call does that encodes one. The numbers are
-- this library's own, and include/icysixel.h names them.
use Rattle.std.specs.{Option.option_or, Prelude.{◌≡◌, ◌≢◌, ◌*◌, ◌<◌, ◌≤◌, ◌==◌, ◌||◌, not}}
use Rattle.std.specs.Prelude.{if◌then◌else◌, ℕ, nat_lt, nat_le, ◌&&◌, List, [], length}
use Rattle.std.specs.Prelude.{slice_index_or, take, Bool, Option, Some, None, IsTrue, ◌⊎◌, Result}
use Rattle.std.specs.Prelude.{Err, IfOk, IfErr, IsErrAnd, MatchResult, String, string_bytes}
use Rattle.std.specs.declared.alloc.Global.{Global}
use Rattle.sixel_base.specs.{CallFault.{CallFault, color_count_fault}, Payload.Image}
use Rattle.sixel_base.specs.Size.{encode_fault}
use Rattle.sixel_base.specs.declared.error.SixelError.{SixelError}
use Rattle.sixel_base.specs.declared.settings.BackgroundMode.{BackgroundMode}
use Rattle.sixel_base.specs.declared.settings.BackgroundMode.TheVariants.{Opaque, Transparent}
use Rattle.sixel_base.specs.declared.settings.PixelAspectRatio.{PixelAspectRatio}
use Rattle.sixel_base.specs.declared.settings.PixelAspectRatio.TheVariants.{Ratio5To1, Ratio3To1}
use Rattle.sixel_base.specs.declared.settings.PixelAspectRatio.TheVariants.{Ratio2To1, Square}
use Rattle.sixel_encoder.specs.{Form.IsFormText, IndexedDrawing.{IsPaletteText, IsTextOf}}
use Rattle.sixel_encoder.specs.IndexedDrawing.{index_range_fault, indexed_drawing}
use Rattle.sixel_encoder.specs.RefinedText.{IsBackgroundText, IsRefinedText}
use Rattle.sixel_encoder.specs.declared.{refined.Background.Background, form.TextForm.TextForm}
use Rattle.sixel_encoder.specs.declared.form.TextForm.TheVariants.{Plain, Compact}
use Rattle.sixel_palette.specs.declared.{dither.Dither.Dither, dither.Dither.TheVariants.Off}
use Rattle.sixel_palette.specs.declared.dither.Dither.TheVariants.{Diffusion, Ordered}
use Rattle.sixel_palette.specs.declared.mapping.Mapping.{Mapping}
use Rattle.sixel_palette.specs.declared.mapping.Tolerance.TheVariants.{Auto, Squared}
use Rattle.icysixel.specs.{Code.{IsCallCode, IsCodeOf}, Formats.{is_rgba, pixel_len, rgba_pixels}}
use Rattle.icysixel.specs.Rows.{has_gaps, rows_of, stride_of, wanted}
use Rattle.icysixel.specs.declared.{bytes.Bytes.Bytes, encoding.Dithering.Dithering}
use Rattle.icysixel.specs.declared.{encoding.Encoding.Encoding, encoding.PaletteMode.PaletteMode}
use Rattle.icysixel.specs.declared.encoding.PaletteMode.TheVariants.{Refined, Farthest, Given}
use Rattle.icysixel.specs.declared.encoding.PaletteMode.TheVariants.{Indexed, OnBackground}
use Rattle.icysixel.specs.declared.format.Format.{Format}
use Rattle.sixel_palette.specs.declared.dither.Amplitude.TheVariants as amplitude
use Rattle.icysixel.specs.declared.format.Format.TheVariants as format

-- ---- numbers

-- 0 is no dithering, 1 error diffusion, and 2 an ordered pattern. An amount of 0 is 7 eighths of
-- the error, or the amplitude of the palette.
abbrev pub dither_of : Dithering → Dither
dither_of dithering =
    if dithering.kind == 1 then Diffusion (if dithering.amount == 0 then 7 else dithering.amount)
    else if dithering.kind == 2
    then Ordered (if dithering.amount == 0 then amplitude.Auto else amplitude.Levels
    dithering.amount)
    else Off

-- the greatest tolerance stands for the automatic one
abbrev pub mapping_of : Dithering → ℕ → Mapping
mapping_of dithering tolerance = record {
  dither = dither_of dithering;
  tolerance = if tolerance == 0xffff_ffff then Auto else Squared tolerance;
}

-- 0 is the plain form, and 1 the compact one
abbrev pub form_of : Encoding → TextForm
form_of encoding = if encoding.form == 0 then Plain else Compact

-- 0 is RGBA, 4 a palette index, and 5 one with a transparent index
abbrev pub format_of : Encoding → Format
format_of encoding =
    if encoding.format == 1 then format.Bgra
    else if encoding.format == 2 then format.Rgb
    else if encoding.format == 3 then format.Bgr
    else if encoding.format == 4 then format.Indexed None
    else if encoding.format == 5 then format.Indexed (Some encoding.transparent)
    else format.Rgba

-- the height of a pixel of width 1, where any number that is not named means 1
abbrev pub ratio_of : Encoding → PixelAspectRatio
ratio_of encoding =
    if encoding.pixel_height == 2 then Ratio2To1
    else if encoding.pixel_height == 3 then Ratio3To1
    else if encoding.pixel_height == 5 then Ratio5To1
    else Square

-- 0 is transparent, 1 opaque, and 2 opaque in the first of the colors
abbrev pub background_of : Encoding → BackgroundMode
background_of encoding = if encoding.background == 0 then Transparent else Opaque

-- palette indices are those of the given palette, whose first color is the background anyway
abbrev pub mode_of : Encoding → PaletteMode
mode_of encoding =
    if encoding.format == 4 || encoding.format == 5 then Indexed
    else if encoding.palette == 1 then Farthest
    else if encoding.palette == 2 then Given
    else if encoding.background == 2 then OnBackground
    else Refined

-- the most entries of a palette that is not given
abbrev pub color_limit : Encoding → ℕ
color_limit encoding = if encoding.max_colors == 0 then 256 else encoding.max_colors

-- the background of a refined palette, and the most entries with it
abbrev pub color_background : Encoding → Background
color_background encoding = record {
  color = slice_index_or encoding.colors 0 [];
  max_colors = color_limit encoding;
}

-- the given palette: it is empty if more colors are counted than there can be
abbrev pub given_colors : Encoding → List (List ℕ)
given_colors encoding =
    if nat_lt 256 encoding.color_count then [] else take encoding.color_count encoding.colors

-- whether the header names the kind of dithering
abbrev pub is_kind : Dithering → Bool
is_kind dithering = nat_le dithering.kind 2

-- whether it names each number that stands for an option: a palette that is chosen farthest first
-- has no background of its own
abbrev pub has_options : Encoding → Bool
has_options encoding =
    nat_le encoding.format 5 && nat_le encoding.background 2 && nat_le encoding.palette 2
    && is_kind encoding.dithering && nat_le encoding.form 1
    && not (encoding.background == 2 && encoding.palette == 1)

-- ---- pixels

-- the number of bytes of a row, and from row to row
abbrev pub row_len : Encoding → ℕ
row_len encoding = pixel_len (format_of encoding) * encoding.width

abbrev pub row_stride : Encoding → ℕ
row_stride encoding = stride_of encoding.stride (row_len encoding)

-- the number of bytes of all rows, if they fit their stride and a usize
abbrev pub bytes_of : Encoding → Option ℕ
bytes_of encoding = wanted (row_stride encoding) (row_len encoding) encoding.height

-- the rows of these bytes without gaps
abbrev pub dense_rows : Encoding → List ℕ → List ℕ
dense_rows encoding pixels =
    rows_of (row_stride encoding) (row_len encoding) encoding.height pixels

-- the image of rows without gaps
abbrev pub image_of : Encoding → List ℕ → Image
image_of encoding rows = record {
  pixels = rgba_pixels (format_of encoding) rows (encoding.width * encoding.height);
  width = encoding.width;
  height = encoding.height;
  aspect_ratio = ratio_of encoding;
  background_mode = background_of encoding;
}

-- whether the pixels are copied, to convert them or to leave gaps out
abbrev pub copies : Encoding → Bool
copies encoding =
    not (is_rgba (format_of encoding)) || has_gaps (row_stride encoding) (row_len encoding)

-- ---- palettes

-- what is wrong with the colors of an image, or with the indices of its pixels
abbrev pub colors_fault : PaletteMode → Encoding → Image → List ℕ → Option CallFault
colors_fault Refined encoding image indices = color_count_fault (color_limit encoding)
colors_fault OnBackground encoding image indices = color_count_fault (color_limit encoding)
colors_fault Farthest encoding image indices = None
colors_fault Given encoding image indices = color_count_fault (length (given_colors encoding))
colors_fault Indexed encoding image indices =
    option_or (color_count_fault (length (given_colors encoding)))
    (index_range_fault image.pixels indices (length (given_colors encoding)))

-- the bytes are the text of the image
abbrev pub IsTextIn : PaletteMode → Encoding → Image → List ℕ → List ℕ → Type 0
IsTextIn Refined encoding image indices text =
    IsRefinedText image (color_limit encoding) (mapping_of encoding.dithering encoding.tolerance)
    (form_of encoding) text
IsTextIn OnBackground encoding image indices text =
    IsBackgroundText image (color_background encoding)
    (mapping_of encoding.dithering encoding.tolerance) (form_of encoding) text
IsTextIn Farthest encoding image indices text =
    IsFormText (form_of encoding) image (color_limit encoding) text
IsTextIn Given encoding image indices text =
    IsPaletteText image (given_colors encoding) (mapping_of encoding.dithering encoding.tolerance)
    (form_of encoding) text
IsTextIn Indexed encoding image indices text =
    IsTextOf (form_of encoding) (indexed_drawing image (given_colors encoding) indices) text

-- the same of rows without gaps, which are palette indices if the format has these
abbrev pub rows_fault : Encoding → List ℕ → Option CallFault
rows_fault encoding rows = colors_fault (mode_of encoding) encoding (image_of encoding rows) rows

abbrev pub IsRowsText : Encoding → List ℕ → List ℕ → Type 0
IsRowsText encoding rows text =
    IsTextIn (mode_of encoding) encoding (image_of encoding rows) rows text

-- as a call with this fault returns: its code, or out of memory if it first copies rows; without a
-- fault a call fails only by out of memory
abbrev pub FailsByCode : {X : Type 0} → Bool → Option CallFault → Result X ℕ → Type 0
FailsByCode copies None result = IfErr result (λ code. code ≡ 8)
FailsByCode copies (Some fault) result =
    IsErrAnd result (λ code. IsCallCode code fault ⊎ ((code ≡ 8) × IsTrue copies))

-- These pixels are encoded, or the code is that of an error: of the sizes, of the stride, of rows
-- that overflow, of too few pixels, and then of the colors.
pub record IsEncoded (encoding : Encoding) (pixels : List ℕ)
    (result : Result (String Global) ℕ) : Type 0 where
  pub sizes : (fault : SixelError) → encode_fault encoding.width encoding.height ≡ Some fault
      → IsErrAnd result (λ code. IsCodeOf code fault)
  pub stride : encode_fault encoding.width encoding.height ≡ None
      → row_stride encoding < row_len encoding → result ≡ Err 7
  pub overflow : encode_fault encoding.width encoding.height ≡ None
      → row_len encoding ≤ row_stride encoding → bytes_of encoding ≡ None → result ≡ Err 9
  pub buffer : (size : ℕ) → encode_fault encoding.width encoding.height ≡ None
      → bytes_of encoding ≡ Some size → length pixels < size → result ≡ Err 11
  pub colors : (size : ℕ) → encode_fault encoding.width encoding.height ≡ None
      → bytes_of encoding ≡ Some size → size ≤ length pixels
      → FailsByCode (copies encoding) (rows_fault encoding (dense_rows encoding pixels)) result
  pub refused : IfErr result (λ code. code ≢ 0)
  pub text : IfOk result (λ text.
      IsRowsText encoding (dense_rows encoding pixels) (string_bytes text))

-- These pixels are encoded and their text is transferred, or nothing changes but the code.
pub record IsTransferred (encoding : Encoding) (pixels : List ℕ) (old new : Bytes) (code : ℕ)
    : Type 0 where
  pub result : Result (String Global) ℕ
  pub encoded : IsEncoded encoding pixels result
  pub transferred : MatchResult result
      (λ text. (code ≡ 0) × (new.items ≡ string_bytes text))
      (λ error. (code ≡ error) × (new ≡ old))
