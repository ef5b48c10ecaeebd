-- The drawing of an image in a given palette: each opaque pixel has an entry by its palette index.
-- What any text of a drawing has to be, and what is wrong with the arguments of such a call.
use Rattle.std.specs.{List.{range_with_len, list_any}, Option.option_or, Prelude.{◌≡◌, ℕ, ◌+◌, ◌*◌}}
use Rattle.std.specs.Prelude.{◌≤◌, ◌==◌, ◌&&◌, nat_le, Bool, if◌then◌else◌, List, length, map}
use Rattle.std.specs.Prelude.{slice_index, Option, Some, None}
use Rattle.sixel_base.specs.CallFault.{CallFault, Exactly, IndexRange, color_count_fault}
use Rattle.sixel_base.specs.{CallFault.size_call_fault, Limits.Limit, Payload.Image, Size.banded}
use Rattle.sixel_base.specs.declared.error.SixelError.TheVariants.{BufferSizeMismatch}
use Rattle.sixel_base.specs.declared.state.DecoderState.{DecoderState}
use Rattle.sixel_palette.specs.declared.mapping.Mapping.{Mapping}
use Rattle.sixel_encoder.specs.declared.form.TextForm.{TextForm}
use Rattle.sixel_palette.specs.{Dithering.AreDithered, Palette.entry_of}
use Rattle.sixel_encoder.specs.{Encoding.{AreShortest, image_fault}, Form.form_text, Text.Drawing}
use Rattle.sixel_encoder.specs.{Text.text_of, Trip.{CanRead, IsOneString, IsReadAs, trip}}

-- ---- drawings

-- the entries of all pixels
abbrev pub entries_of : List ℕ → List ℕ → List (Option ℕ)
entries_of pixels indices = map (entry_of pixels indices) (range_with_len 0 (length indices))

-- the drawing of an image in these colors, whose pixels have these palette indices
abbrev pub indexed_drawing : Image → List (List ℕ) → List ℕ → Drawing
indexed_drawing image colors indices = record {
  width = image.width;
  height = image.height;
  aspect_ratio = image.aspect_ratio;
  background_mode = image.background_mode;
  colors = colors;
  entries = entries_of image.pixels indices;
}

-- ---- texts

-- The bytes are the text of the drawing in this form: one DCS sequence, no longer than the plain
-- text, in which no row takes more bytes than it needs. Each decoder that can read it, as a new one
-- can, returns the drawing's trip.
pub record IsTextOf (form : TextForm) (drawing : Drawing) (bytes : List ℕ) : Type 0 where
  pub text : bytes ≡ form_text form drawing
  pub shortest : AreShortest drawing
  pub short : length bytes ≤ length (text_of drawing)
  pub one_string : (limit : Limit) → drawing.width * banded drawing.height ≤ limit.pixels
      → IsOneString limit bytes
  pub read_back : (decoder : DecoderState) → CanRead decoder drawing.width drawing.height
      → IsReadAs decoder bytes (trip decoder.raster_crop drawing)

-- the bytes are the text of the image in this palette and form
pub record IsPaletteText (image : Image) (colors : List (List ℕ)) (mapping : Mapping)
    (form : TextForm) (bytes : List ℕ) : Type 0 where
  pub indices : List ℕ
  pub dithered : AreDithered mapping image.width image.pixels colors indices
  pub text : IsTextOf form (indexed_drawing image colors indices) bytes

-- ---- errors of a call

-- what is wrong with an image that is to be encoded in this number of colors
abbrev pub palette_fault : Image → ℕ → Option CallFault
palette_fault image colors =
    option_or (size_call_fault (image_fault image)) (color_count_fault colors)

-- another number of indices than there are pixels
abbrev pub index_count_fault : Image → ℕ → Option CallFault
index_count_fault image indices =
    if indices == image.width * image.height then None
    else Some (Exactly (BufferSizeMismatch (image.width * image.height) indices))

-- whether a pixel is opaque and has an index past the colors
abbrev pub is_past : List ℕ → List ℕ → ℕ → ℕ → Bool
is_past pixels indices colors pixel =
    nat_le 128 (slice_index pixels (4 * pixel + 3)) && nat_le colors (slice_index indices pixel)

-- an index of an opaque pixel past the colors
abbrev pub index_range_fault : List ℕ → List ℕ → ℕ → Option CallFault
index_range_fault pixels indices colors =
    if list_any (is_past pixels indices colors) (range_with_len 0 (length indices))
    then Some IndexRange
    else None

-- what is wrong with an image that is to be encoded in this number of colors by these indices
abbrev pub indexed_fault : Image → ℕ → List ℕ → Option CallFault
indexed_fault image colors indices =
    option_or (palette_fault image colors)
    (option_or (index_count_fault image (length indices))
    (index_range_fault image.pixels indices colors))
