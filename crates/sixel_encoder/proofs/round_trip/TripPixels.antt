-- What the trip of a drawing shows, byte by byte: each pixel with an entry in its rounded color,
-- and no other.
use Rattle.std.proofs.Common.{◌≡◌, ℕ, ◌+◌, ◌*◌, ◌<◌, List, length, get_or, arith, ◌/◌, ◌%◌}
use Rattle.std.proofs.Common.{slice_index, Bool, ◌∷◌, ◌++◌, map, refl, sym, ◌∙◌, length-append, []}
use Rattle.std.proofs.{Common.{Some, None}, Math.Nat.mul_comm, lemmas.Bool.Decides.nat_tests}
use Rattle.std.proofs.{lemmas.Grind.common_steps, lemmas.List.{get_or_past, length-map, get_or-map}}
use Rattle.std.proofs.lemmas.Nat.{div-add-mod', div_below, mod_below}
use Rattle.std.specs.Prelude.{Option, slice_index_or, Contains}
use Rattle.sixel_base.specs.Picture.{picture}
use Rattle.sixel_base.specs.declared.settings.BackgroundMode.TheVariants.{Transparent}
use Rattle.sixel_base.proofs.PictureBytes.{get_or-joined, length-joined_below}
use Rattle.sixel_palette.specs.Palette.{IsShown, color_at}
use Rattle.sixel_encoder.specs.{Text.{Drawing, entry_at}, Trip.{IsWritable, rounded, trip_pixel}}
use Rattle.sixel_encoder.specs.Trip.{trip_height, trip}

-- the pixels of a picture have four bytes each
pub length-picture : (p : ℕ → ℕ → List ℕ) (w h : ℕ)
    → ((column line : ℕ) → column < w → line < h → length (p column line) ≡ 4)
    → length (picture p w h) ≡ h * (w * 4)
unfolding picture
length-picture p w h four = grind (arith, nat_tests, length-joined_below)

-- a byte of a pixel
pub get_or-picture : (p : ℕ → ℕ → List ℕ) (w h column line i : ℕ)
    → ((column line : ℕ) → column < w → line < h → length (p column line) ≡ 4) → column < w
    → line < h → i < 4
    → get_or (picture p w h) (line * (w * 4) + (column * 4 + i)) 0 ≡ get_or (p column line) i 0
unfolding picture
get_or-picture p w h column line i four lc ll li = grind (arith, get_or-joined, length-joined_below)

-- a byte of the pixel at a place
pub slice_index-picture : (p : ℕ → ℕ → List ℕ) (w h place i : ℕ)
    → ((column line : ℕ) → column < w → line < h → length (p column line) ≡ 4) → 0 < w
    → place < w * h → i < 4
    → slice_index (picture p w h) (4 * place + i) ≡ get_or (p (place % w) (place / w)) i 0
slice_index-picture p w h place i four some l li =
    grind (arith, nat_tests, div-add-mod', mod_below, div_below, mul_comm, get_or-picture)

-- the entry at a place, counted row by row
abbrev pub entry_in : Drawing → ℕ → Option ℕ
entry_in drawing place = slice_index_or drawing.entries place None

-- an entry at a place is one of the drawing's colors
pub known_in : (drawing : Drawing) (place entry : ℕ) → IsWritable drawing
    → entry_in drawing place ≡ Some entry
    → (place < length drawing.entries) × (entry < length drawing.colors)
known_in drawing place entry is e = grind (arith, nat_tests, get_or_past)

-- a color that was rounded
abbrev pub rounded_entry : Drawing → ℕ → List ℕ
rounded_entry drawing entry = map rounded (slice_index_or drawing.colors entry [])

-- it has three channels
pub length-rounded_entry : (drawing : Drawing) (entry : ℕ) → IsWritable drawing
    → entry < length drawing.colors → length (rounded_entry drawing entry) ≡ 3
length-rounded_entry drawing entry is l = grind (arith, nat_tests, length-map)

-- each pixel of a trip has four bytes
length-trip_pixel : (drawing : Drawing) (column line : ℕ) → IsWritable drawing
    → length (trip_pixel drawing (entry_at drawing column line)) ≡ 4
length-trip_pixel drawing column line is =
    grind (arith, nat_tests, length-append, length-rounded_entry, known_in)

-- how many bytes it has
pub length-trip : (crop : Bool) (drawing : Drawing) → IsWritable drawing
    → length (trip crop drawing).pixels ≡ 4 * (drawing.width * trip_height crop drawing)
length-trip crop drawing is = grind (arith, nat_tests, length-picture, length-trip_pixel)

-- a list of three with a byte behind
read-three : (c : List ℕ) → length c ≡ 3
    → (get_or (c ++ 255 ∷ []) 0 0 ∷ get_or (c ++ 255 ∷ []) 1 0 ∷ get_or (c ++ 255 ∷ []) 2 0 ∷ []
    ≡ c) × (get_or (c ++ 255 ∷ []) 3 0 ≡ 255)
read-three c three = grind (arith, common_steps, nat_tests)

module _ (crop : Bool) (drawing : Drawing) (place : ℕ) (is : IsWritable drawing)
    (l : place < drawing.width * trip_height crop drawing) where
  -- a byte of the trip, at a place
  pub byte-trip : (i : ℕ) → i < 4
      → slice_index (trip crop drawing).pixels (4 * place + i)
      ≡ get_or (trip_pixel drawing (entry_in drawing place)) i 0
  byte-trip i li = grind (arith, nat_tests, slice_index-picture, div-add-mod', length-trip_pixel)

  -- the alpha of a pixel with an entry
  pub alpha-some : (entry : ℕ) → entry_in drawing place ≡ Some entry
      → slice_index (trip crop drawing).pixels (4 * place + 3) ≡ 255
  alpha-some entry e =
      grind (arith, common_steps, nat_tests, byte-trip, read-three, length-rounded_entry, known_in)

  -- and its color
  pub color-some : (entry : ℕ) → entry_in drawing place ≡ Some entry
      → color_at (trip crop drawing).pixels place ≡ rounded_entry drawing entry
  color-some entry e =
      let byte : (i : ℕ) → i < 4 → slice_index (trip crop drawing).pixels (4 * place + i)
      ≡ get_or (rounded_entry drawing entry ++ 255 ∷ []) i 0 =
      λ i li. grind (arith, nat_tests, byte-trip) in
      grind (arith, nat_tests, read-three, length-rounded_entry, known_in)

-- a transparent pixel with no entry is hidden
pub alpha-none : (crop : Bool) (drawing : Drawing) (place : ℕ) → IsWritable drawing
    → drawing.background_mode ≡ Transparent → place < drawing.width * trip_height crop drawing
    → entry_in drawing place ≡ None → slice_index (trip crop drawing).pixels (4 * place + 3) ≡ 0
alpha-none crop drawing place is mode l e = grind (arith, nat_tests, byte-trip)

-- a color that the trip shows is the rounded color of an entry
pub shown-entry : (crop : Bool) (drawing : Drawing) (c : List ℕ) → IsWritable drawing
    → drawing.background_mode ≡ Transparent → IsShown (trip crop drawing).pixels c
    → (entry : ℕ) × (entry < length drawing.colors) × (rounded_entry drawing entry ≡ c)
shown-entry crop drawing c is mode shown = go (entry_in drawing shown.0) refl
  where
    inside : shown.0 < drawing.width * trip_height crop drawing
    inside = omega (arith, length-trip crop drawing is, shown.1)

    go : (v : Option ℕ) → entry_in drawing shown.0 ≡ v
        → (entry : ℕ) × (entry < length drawing.colors) × (rounded_entry drawing entry ≡ c)
    go None e = grind (arith, nat_tests, alpha-none, inside)
    go (Some entry) e =
        let same = sym (color-some crop drawing shown.0 is inside entry e) ∙ shown.3 in
        (entry, (known_in drawing shown.0 entry is e).1, same)

-- so every such color is among the drawing's colors, rounded
pub shown-among : (crop : Bool) (drawing : Drawing) (c : List ℕ) → IsWritable drawing
    → drawing.background_mode ≡ Transparent → IsShown (trip crop drawing).pixels c
    → Contains (map (map rounded) drawing.colors) c
shown-among crop drawing c is mode shown =
    grind (arith, nat_tests, shown-entry crop drawing c, length-map, get_or-map)
