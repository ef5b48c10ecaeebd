-- The drawing of an image by palette indices: an image has one, it can be written, and its text is
-- read back.
use Rattle.std.proofs.Common.{◌≡◌, ℕ, ◌<◌, List, length, get_or, arith, None, ◌+◌, ◌*◌, ◌≤◌, ap}
use Rattle.std.proofs.Common.{◌∙◌, slice_index, true}
use Rattle.std.proofs.lemmas.{Bool.Decides.nat_tests, List.Folds.list_any_at}
use Rattle.std.proofs.lemmas.List.FromFn.{length-map-range_with_len, get_or-map-range_with_len}
use Rattle.std.proofs.lemmas.List.FromFn.{get_or-range_with_len, length-range_with_len}
use Rattle.std.specs.{List.{list_any, range_with_len}, Prelude.All}
use Rattle.sixel_palette.specs.Palette.{IsPalette, AreIndices}
use Rattle.sixel_base.specs.Payload.{Image}
use Rattle.sixel_encoder.specs.inside.Indexed.{entry_of, entries_of}
use Rattle.sixel_encoder.specs.{Encoding.{IsDrawing, image_fault}, IndexedDrawing.indexed_drawing}
use Rattle.sixel_encoder.specs.IndexedDrawing.{IsTextOf, index_range_fault, is_past}
use Rattle.sixel_encoder.specs.{Form.form_text, Text.{Drawing, row_of}, Trip.{IsColor, IsWritable}}
use Rattle.sixel_encoder.specs.declared.form.TextForm.{TextForm}
use Rattle.sixel_encoder.proofs.round_trip.DcsText.{IsOneString-drawn, IsReadAs-drawn}
use Rattle.sixel_encoder.proofs.drawings.{EncodedText.IsDrawnText-form, Sizes.within-sound}
use Rattle.sixel_encoder.proofs.band_rows.ShortestRows.{shortest, spells}
use Rattle.sixel_encoder.proofs.compact_form.Text.{length-compact}

pub get_or-entries : (pixels indices : List ℕ) (pixel : ℕ) → pixel < length indices
    → get_or (entries_of pixels indices) pixel None ≡ entry_of pixels indices pixel
get_or-entries pixels indices pixel h = grind (arith, nat_tests, get_or-map-range_with_len)

-- a chosen palette and its indices make the drawing
pub IsDrawing-chosen : (image : Image) (max_colors : ℕ) (colors : List (List ℕ)) (indices : List ℕ)
    → IsPalette image.pixels max_colors colors → AreIndices image.pixels colors indices
    → IsDrawing image max_colors (indexed_drawing image colors indices)
IsDrawing-chosen image max_colors colors indices palette are =
    grind (arith, length-map-range_with_len, get_or-entries)

-- a drawing that can be written has a text in either form that is read back
pub IsTextOf-written : (form : TextForm) (drawing : Drawing) (bytes : List ℕ) → IsWritable drawing
    → bytes ≡ form_text form drawing → IsTextOf form drawing bytes
IsTextOf-written form drawing bytes is same =
    let drawn = IsDrawnText-form form drawing is in
    record {
      text = same;
      shortest = λ band entry. (spells (row_of drawing band entry), shortest _);
      short = grind (arith, nat_tests, ap length same, length-compact);
      one_string = λ limit room. rw same (IsOneString-drawn limit drawing _ is drawn room);
      read_back = λ decoder reads. rw same (IsReadAs-drawn decoder drawing _ is drawn reads);
    }

-- an opaque pixel with an index past the colors is found
pub list_any-past : (pixels indices : List ℕ) (colors pixel : ℕ) → pixel < length indices
    → 128 ≤ slice_index pixels (4 * pixel + 3) → colors ≤ slice_index indices pixel
    → list_any (is_past pixels indices colors) (range_with_len 0 (length indices)) ≡ true
list_any-past pixels indices colors pixel l light past =
    let place : get_or (range_with_len 0 (length indices)) pixel 0 ≡ pixel =
    get_or-range_with_len 0 (length indices) pixel 0 l ∙ omega arith in
    grind (arith, nat_tests, list_any_at, length-range_with_len)

-- the index of each opaque pixel is below the number of colors
abbrev pub AreEntries : List ℕ → List ℕ → ℕ → Type 0
AreEntries pixels indices colors =
    (pixel : ℕ) → pixel < length indices → 128 ≤ slice_index pixels (4 * pixel + 3)
    → slice_index indices pixel < colors

-- as where no index is past them
pub AreEntries-sound : (pixels indices : List ℕ) (colors : ℕ)
    → index_range_fault pixels indices colors ≡ None → AreEntries pixels indices colors
AreEntries-sound pixels indices colors sound = grind (arith, nat_tests, list_any-past)

-- valid indices draw what can be written
pub IsWritable-indexed : (image : Image) (colors : List (List ℕ)) (indices : List ℕ)
    → image_fault image ≡ None → length colors ≤ 256 → All IsColor colors
    → length indices ≡ image.width * image.height
    → AreEntries image.pixels indices (length colors)
    → IsWritable (indexed_drawing image colors indices)
IsWritable-indexed image colors indices sound few bytes count are =
    grind (arith, nat_tests, within-sound, length-map-range_with_len, get_or-map-range_with_len)
