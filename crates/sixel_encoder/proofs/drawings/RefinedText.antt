-- The text of an image in a refined palette: a decoder shows the entries unrounded, and it is the
-- text of each image that shows the same.
use Rattle.std.proofs.Common.{◌≡◌, ℕ, List, arith, map, ◌<◌, length, ap, sym, subst, ◌∙◌, Err, None}
use Rattle.std.proofs.{Common.{Ok, Result}, lemmas.Bool.Decides.nat_tests}
use Rattle.std.specs.{Option.option_or, Prelude.{All, IfOk, OnOk, Option}}
use Rattle.sixel_base.specs.{CallFault.{CallFault, FailsBy, size_call_fault}, Payload.Image}
use Rattle.sixel_base.specs.declared.error.SixelError.{SixelError}
use Rattle.sixel_palette.specs.{Dithering.{AreDithered, refined_mapping}, GainCut.bin_step}
use Rattle.sixel_palette.specs.{Palette.nearest, Refined.{IsRegisterColor, IsRefined, base_entries}}
use Rattle.sixel_palette.specs.Refined.{cut_entries, opaque_bins, opaque_pixels}
use Rattle.sixel_palette.specs.{Spread.spread_entries, declared.mapping.Mapping.Mapping}
use Rattle.sixel_palette.specs.declared.palette.refined.RefinedPalette.{RefinedPalette}
use Rattle.sixel_encoder.specs.{Encoding.{image_fault, shown_image}, IndexedDrawing.indexed_drawing}
use Rattle.sixel_encoder.specs.{IndexedDrawing.IsTextOf, RefinedText.{ShowsEntries, IsRefinedText}}
use Rattle.sixel_encoder.specs.{Trip.rounded, declared.form.TextForm.TextForm}
use Rattle.sixel_palette.proofs.mapped_images.UnditheredAlike.{indices-alike}
use Rattle.sixel_palette.proofs.{refinement.One.refined_same, refinement.Tops.tops_alike}
use Rattle.sixel_encoder.proofs.drawings.PaletteText.{hidden-returned, rows-sound}
use Rattle.sixel_encoder.proofs.drawings.SameDithering.{AreDithered-alike, drawing-alike}
use Rattle.sixel_encoder.proofs.drawings.SameDithering.{pixels-same}
use Rattle.sixel_encoder.proofs.drawings.SameDrawing.{IsShown-other, AreAlike-images}

-- nor is such a color
rounded-register : (c : List ℕ) → IsRegisterColor c → map rounded c ≡ c
rounded-register c is = grind (arith, nat_tests)

-- so a decoder shows the entries
pub ShowsEntries-register : (image : Image) (colors : List (List ℕ)) (indices : List ℕ)
    → All IsRegisterColor colors → ShowsEntries (indexed_drawing image colors indices)
ShowsEntries-register image colors indices all = grind (arith, nat_tests, rounded-register)

-- ---- the palette

-- a palette is refined for both
pub IsRefined-other : (image other : Image) (max_colors : ℕ) (palette : RefinedPalette)
    → shown_image image ≡ shown_image other → IsRefined image.pixels max_colors palette
    → IsRefined other.pixels max_colors palette
IsRefined-other image other max_colors palette e is =
    let alike = AreAlike-images image other e in
    let colors = length is.members in
    let same : opaque_bins image.pixels colors ≡ opaque_bins other.pixels colors = λ i. record {
      sum = λ number. pixels-same image.pixels other.pixels alike number i;
      step = bin_step colors;
    } in
    let first = pixels-same image.pixels other.pixels alike (nearest palette.colors.items) in
    let initial = pixels-same image.pixels other.pixels alike (nearest palette.initial.items) in
    record {
      shown = is.shown;
      few = is.few;
      members = is.members;
      are = record {
        all = λ k d l. IsShown-other image other e _ (is.are.all k d l);
        complete = λ c shown. is.are.complete c (IsShown-other other image (sym e) c shown);
        ascending = is.are.ascending;
      };
      whole = is.whole;
      base = is.base;
      cut = λ l.
          let w = is.cut l in (
            w.0 ∙ ap (λ p. cut_entries p max_colors) same,
            w.1 ∙ ap (λ p. base_entries p max_colors) same,
          );
      indices = grind (arith, nat_tests, indices-alike);
      error = is.error ∙ first;
      falls = omega (arith, is.falls, first, initial);
      initial_shown = is.initial_shown;
      initial_few = is.initial_few;
      top = grind (arith, nat_tests, tops_alike);
      witnesses = λ k d l. IsShown-other image other e _ (is.witnesses k d l);
      apart = is.apart;
      bound = λ n l others few.
          let far = is.bound n l others few in
          (far.0, IsShown-other image other e far.0 far.1, far.2);
    }

-- and its entries are spread alike for both
spread-alike : (image other : Image) (amount : ℕ) (entries : List (List ℕ))
    → shown_image image ≡ shown_image other
    → spread_entries amount (opaque_pixels image.pixels) entries
    ≡ spread_entries amount (opaque_pixels other.pixels) entries
spread-alike image other amount entries e =
    let same = pixels-same image.pixels other.pixels (AreAlike-images image other e) in
    λ i. spread_entries amount (λ number. same number i) entries

-- ---- the text

pub IsRefinedText-other : (image other : Image) (max_colors : ℕ) (mapping : Mapping)
    (form : TextForm) (text : List ℕ) → image_fault image ≡ None
    → shown_image image ≡ shown_image other → IsRefinedText image max_colors mapping form text
    → IsRefinedText other max_colors mapping form text
IsRefinedText-other image other max_colors mapping form text sound e is =
    let alike = AreAlike-images image other e in
    let rows = rows-sound image sound in
    let colors = is.colors in
    let indices = is.text.indices in
    let wide : image.width ≡ other.width = ap (λ s. s.width) e in
    let own = refined_mapping mapping in
    let dithered : AreDithered own other.width other.pixels colors indices =
    rw wide at (AreDithered-alike own _ _ _ _ _ alike rows is.text.dithered) in
    let drawing = drawing-alike own colors _ _ image other e rows is.text.dithered dithered in
    record {
      palette = is.palette;
      refined = IsRefined-other image other max_colors is.palette e is.refined;
      colors = colors;
      spread = is.spread ∙ spread-alike image other _ is.palette.colors.items e;
      text = record {
        indices = indices;
        dithered = dithered;
        text = subst (λ d. IsTextOf form d text) drawing is.text.text;
      };
      exact = subst ShowsEntries drawing is.exact;
    }

-- images that show the same have one refined text
pub hidden-refined : {S : Type 0} (bytes : S → List ℕ) (result : Result S SixelError)
    (image other : Image) (max_colors : ℕ) (mapping : Mapping) (form : TextForm) (others : List ℕ)
    (rest : Option CallFault)
    → FailsBy (option_or (size_call_fault (image_fault image)) rest) result
    → OnOk result (All (λ byte. byte < 256) image.pixels)
    → IfOk result (λ text. IsRefinedText image max_colors mapping form (bytes text))
    → shown_image image ≡ shown_image other → IsRefinedText other max_colors mapping form others
    → IfOk result (λ text. bytes text ≡ others)
hidden-refined bytes (Ok text) image other most mapping form others rest fails small is e too =
    let alike = AreAlike-images image other e in
    let same = pixels-same image.pixels other.pixels alike in
    let palette =
    (refined_same _ _ most is.palette too.palette small (IsShown-other image other e)
    (IsShown-other other image (sym e)) same is.refined too.refined).1 in
    let colors : is.colors ≡ too.colors =
    is.spread ∙ spread-alike image other _ is.palette.colors.items e
    ∙ ap (spread_entries _ (opaque_pixels other.pixels)) palette ∙ sym too.spread in
    hidden-returned bytes (Ok text) image other is.colors _ form others rest
    fails is.text e (rw colors too.text)
hidden-refined bytes (Err f) image other most mapping form others rest fails small is e too = tt
