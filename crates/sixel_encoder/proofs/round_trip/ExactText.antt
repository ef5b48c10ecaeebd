-- A refined text shows the very pixels of an image whose colors registers show, if its palette may
-- have them all.
use Rattle.std.proofs.Common.{◌≡◌, ℕ, ◌/◌, ◌<◌, ◌≤◌, List, [], ◌∷◌, ◌++◌, length, refl, ap, ◌∙◌}
use Rattle.std.proofs.{Common.{arith, None, slice_index}, lemmas.Bool.Decides.nat_tests}
use Rattle.std.proofs.lemmas.List.{get_or-map, length-map}
use Rattle.std.specs.Prelude.{All, Contains, slice_index_or}
use Rattle.sixel_base.specs.Payload.{Image}
use Rattle.sixel_palette.specs.{Dithering.{mapped_of, undithered_of}, Palette.{AreIndices, HasSize}}
use Rattle.sixel_palette.specs.{Palette.{IsOpaque, IsShown, color_at}, Refined.IsRegisterColor}
use Rattle.sixel_palette.specs.Refined.{register_color}
use Rattle.sixel_palette.proofs.mapped_images.DiffusionLaws.{nearest-own}
use Rattle.sixel_palette.proofs.mapped_images.KeptEntries.{entry_of-opaque}
use Rattle.sixel_palette.proofs.mapped_images.UnditheredLaws.{AreIndices-chosen}
use Rattle.sixel_palette.proofs.{refinement.Refined.register_color-own, traversal.Law.size_same}
use Rattle.sixel_encoder.specs.{Encoding.image_fault, IndexedDrawing.indexed_drawing}
use Rattle.sixel_encoder.specs.RefinedText.{IsRefinedText, ShowsPixels, no_mapping}
use Rattle.sixel_encoder.specs.{Trip.trip_pixel, declared.form.TextForm.TextForm}
use Rattle.sixel_encoder.proofs.{drawings.IndexedText.get_or-entries, drawings.Sizes.within-sound}

module _ (image : Image) (max_colors n : ℕ) (form : TextForm) (text : List ℕ)
    (sound : image_fault image ≡ None) (size : HasSize (IsShown image.pixels) n)
    (few : n ≤ max_colors) (exact : (c : List ℕ) → IsShown image.pixels c → IsRegisterColor c)
    (is : IsRefinedText image max_colors no_mapping form text) where
  -- no entry is spread
  same : is.colors ≡ is.palette.colors.items
  same = is.spread

  -- the palette has the color of each opaque pixel
  held : (c : List ℕ) → IsShown image.pixels c → Contains is.colors c
  held c shown =
      let members = is.refined.members in
      let own = size_same image.pixels n (length members) size (members, is.refined.are, refl) in
      let whole = (is.refined.whole (omega (arith, own, few))).1 in
      let (k, l, at) = is.refined.are.complete c shown in
      rw (same ∙ whole) (
        k,
        omega (arith, l, length-map members register_color),
        get_or-map register_color members k c c l ∙ ap register_color at
            ∙ register_color-own c (exact c shown),
      )

  -- a register shows three channels
  three : All (λ p. length p ≡ 3) is.colors
  three = rw same (λ k d l. grind (arith, nat_tests, is.refined.shown k d l))

  -- an image with an opaque pixel has the nearest indices of a palette that has its colors
  own-indices : (pixel : ℕ) → pixel < length image.pixels / 4 → IsOpaque image.pixels pixel
      → AreIndices image.pixels is.colors is.text.indices
  own-indices pixel l light =
      let have = is.text.dithered in
      let within = within-sound image sound in
      let entry = held (color_at image.pixels pixel) (pixel, l, light, refl) in
      AreIndices-chosen (undithered_of (mapped_of no_mapping image.width image.pixels is.colors)
      have.0 is.text.indices) have.2 have.1 (omega (arith, within.some_width))
      (omega (arith, entry.1)) refl

  -- so an opaque pixel has the index of its color
  own-index : (pixel : ℕ) → pixel < length image.pixels / 4 → IsOpaque image.pixels pixel
      → slice_index_or is.colors (slice_index is.text.indices pixel) []
      ≡ color_at image.pixels pixel
  own-index pixel l light =
      nearest-own is.colors (color_at image.pixels pixel) _ three refl
      (held (color_at image.pixels pixel) (pixel, l, light, refl))
      ((own-indices pixel l light).opaque pixel l light)

  pub ShowsPixels-exact : ShowsPixels image (indexed_drawing image is.colors is.text.indices)
  ShowsPixels-exact pixel l light =
      let drawing = indexed_drawing image is.colors is.text.indices in
      let are = own-indices pixel l light in
      ap (trip_pixel drawing)
      (get_or-entries image.pixels is.text.indices pixel (omega (arith, l, are.one_each))
      ∙ entry_of-opaque image.pixels is.text.indices pixel light)
      ∙ is.exact _ (are.opaque pixel l light).entry
      ∙ ap (λ c. c ++ 255 ∷ []) (own-index pixel l light)
