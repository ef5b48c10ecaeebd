-- What the raster attributes and the definitions of a text leave: the drawing's sizes and shape,
-- and in each register the color of the last entry that was defined in it, rounded.
use Rattle.std.proofs.Common.{ap, arith, get_or, ◌*◌, ◌∷◌, ◌≡◌, [], None, Some, List, cond, length}
use Rattle.std.proofs.Common.{nat_lt, refl, ℕ, ◌<◌, ◌∙◌}
use Rattle.std.proofs.lemmas.{Bool.Decides.nat_tests, Grind.common_steps, List.get_or-set_other}
use Rattle.std.proofs.lemmas.{List.{get_or-set_same, length-set}, Nat.mul-le}
use Rattle.std.specs.Prelude.{Option, slice_index_or, slice_set, ◌==◌}
use Rattle.sixel_base.specs.{Fields.{field, fields}, History.History, Limits.whole_limit}
use Rattle.sixel_base.specs.{Place.{height, across, down, raster_height, span}, Settings.pad_of}
use Rattle.sixel_base.specs.Stroke.{ratio, Origin, background, pixel, registers}
use Rattle.sixel_base.specs.declared.settings.PixelAspectRatio.{PixelAspectRatio}
use Rattle.sixel_encoder.specs.Marks.{first_pen, register_entry, AreDefinitions, Definition}
use Rattle.sixel_encoder.specs.{Marks.IsDefinition, Text.{Drawing, bands}, Trip.IsWritable}
use Rattle.sixel_encoder.specs.Trip.{IsColor}
use Rattle.sixel_encoder.proofs.drawings.Sizes.{covered}
use Rattle.sixel_encoder.proofs.round_trip.{Digits.{fields-numbers, numbers}, Extent.Fits}
use Rattle.sixel_encoder.proofs.round_trip.{Extent.Fits-color, PenSteps.Follows}
use Rattle.sixel_encoder.proofs.round_trip.TextHistory.{AreFields-percentages, AreFields-sizes}
use Rattle.sixel_encoder.proofs.round_trip.{TextHistory.pad-small, Tokens.{raster_of, sizes}}
use Rattle.sixel_encoder.proofs.round_trip.Tokens.{percentages, with_definition, with_definitions}
use Rattle.sixel_encoder.proofs.round_trip.{Tokens.with_palette, TripPixels.rounded_entry}

-- the fields of the raster attributes
raster-fields : (drawing : Drawing) → IsWritable drawing
    → fields (numbers (pad_of drawing.aspect_ratio) (sizes drawing))
    ≡ pad_of drawing.aspect_ratio ∷ sizes drawing
raster-fields drawing is =
    fields-numbers _ _ (omega (arith, pad-small drawing.aspect_ratio)) (AreFields-sizes _ is)

-- the fourth is the height
pub raster-field3 : (drawing : Drawing) → IsWritable drawing
    → field (numbers (pad_of drawing.aspect_ratio) (sizes drawing)) 3 ≡ drawing.height
raster-field3 drawing is = ap (λ ns. get_or ns 3 0) (raster-fields drawing is)

-- and as high
pub raster-height : (drawing : Drawing) → IsWritable drawing
    → height (raster_of drawing ∷ []) ≡ drawing.height
raster-height drawing is = omega (arith, raster-field3 drawing is, is.some_height)

-- the first two fields say the shape
pub raster-shape : (drawing : Drawing) (other : PixelAspectRatio) → IsWritable drawing
    → ratio other (raster_of drawing ∷ []) ≡ drawing.aspect_ratio
raster-shape drawing other is = grind (arith, nat_tests, raster-fields)

-- the fields of a definition
defines : (entry : ℕ) (color : List ℕ) → entry < 256 → IsColor color
    → fields (numbers entry (percentages color)) ≡ entry ∷ percentages color
defines entry color small is =
    fields-numbers entry (percentages color) (omega arith) (AreFields-percentages color is)

-- a register that was defined has the color of its entry
abbrev HasColor : Drawing → List (List ℕ) → Option ℕ → ℕ → Type 0
HasColor drawing palette None register = Unit {0}
HasColor drawing palette (Some entry) register =
    slice_index_or palette register [] ≡ rounded_entry drawing entry

module _ (start : List (List ℕ)) (drawing : Drawing) (definition : Definition) (h : History)
    (is : IsWritable drawing) (known : IsDefinition drawing definition) where
  -- a definition gives its register the rounded color of its entry
  registers-definition :
      registers start (with_definition drawing definition h)
      ≡ slice_set (registers start h) definition.register (rounded_entry drawing definition.entry)
  registers-definition = grind (arith, nat_tests, defines, common_steps)

  -- so it has after one definition more
  HasColor-definition : (before : Option ℕ) (register : ℕ) → length (registers start h) ≡ 256
      → HasColor drawing (registers start h) before register
      → HasColor drawing (registers start (with_definition drawing definition h))
      (cond (definition.register == register) (Some definition.entry) before) register
  HasColor-definition before register size was =
      grind (arith, nat_tests, get_or-set_same, get_or-set_other, registers-definition)

module _ (start : List (List ℕ)) (drawing : Drawing) (is : IsWritable drawing) where
  -- a definition keeps the number of registers
  length-definition : (definition : Definition) (h : History) → IsDefinition drawing definition
      → length (registers start (with_definition drawing definition h)) ≡ length (registers start h)
  length-definition definition h known = grind (arith, nat_tests, length-set, registers-definition)

  -- after definitions a register has the color of its entry
  HasColor-definitions : (definitions : List Definition) (h : History) (before : Option ℕ)
      (register : ℕ) → AreDefinitions drawing definitions → length (registers start h) ≡ 256
      → HasColor drawing (registers start h) before register
      → HasColor drawing (registers start (with_definitions drawing definitions h))
      (register_entry definitions before register) register
  HasColor-definitions [] h before register known size was = was
  HasColor-definitions (definition ∷ definitions) h before register known size was =
      HasColor-definitions definitions _ _ register known.1
      (length-definition definition h known.0 ∙ size)
      (HasColor-definition start drawing definition h is known.0 before register size was)

-- the register of an entry has the entry's color
pub register-palette : (start : List (List ℕ)) (drawing : Drawing) (definitions : List Definition)
    (register entry : ℕ) → IsWritable drawing → AreDefinitions drawing definitions
    → length start ≡ 256 → register_entry definitions None register ≡ Some entry
    → slice_index_or (registers start (with_palette drawing definitions)) register []
    ≡ rounded_entry drawing entry
register-palette start drawing definitions register entry is known size e =
    let h : History = raster_of drawing ∷ [] in
    rw e at (HasColor-definitions start drawing is definitions h None register known size tt)

module _ (drawing : Drawing) where
  -- what no definition changes is as the raster attributes left it
  undefined : {X : Type 0} (definitions : List Definition) (f : History → X) (h : History)
      → ((definition : Definition) (g : History) → f (with_definition drawing definition g) ≡ f g)
      → f (with_definitions drawing definitions h) ≡ f h
  undefined [] f h kept = refl
  undefined (definition ∷ definitions) f h kept =
      undefined definitions f (with_definition drawing definition h) kept ∙ kept definition h

  -- definitions change no size
  Fits-definitions : (definitions : List Definition) (h : History)
      → Fits whole_limit drawing.width (6 * bands drawing.height) h
      → Fits whole_limit drawing.width (6 * bands drawing.height)
      (with_definitions drawing definitions h)
  Fits-definitions [] h fits = fits
  Fits-definitions (definition ∷ definitions) h fits =
      Fits-definitions definitions _ (Fits-color _ _ _ (numbers definition.register
      (percentages (slice_index_or drawing.colors definition.entry []))) _ fits)

  -- after the definitions the pen is at the top left
  pub Follows-palette : (first : ℕ) (start : List (List ℕ)) (definitions : List Definition)
      → IsWritable drawing
      → Follows drawing first start (registers start (with_palette drawing definitions)) first_pen
      (with_palette drawing definitions)
  Follows-palette first start definitions is = record {
    single = undefined definitions span (raster_of drawing ∷ []) (λ d g. refl);
    place = undefined definitions across (raster_of drawing ∷ []) (λ d g. refl);
    level = undefined definitions down (raster_of drawing ∷ []) (λ d g. refl);
    named = λ register e. absurd cc;
    defined = refl;
    shape = λ other.
        undefined definitions (ratio other) (raster_of drawing ∷ []) (λ d g. refl)
        ∙ raster-shape drawing other is;
    fits = Fits-definitions definitions (raster_of drawing ∷ [])
        (grind (arith, covered, mul-le, raster-field3, raster-fields));
  }

  -- nothing is drawn yet
  pub pixel-palette : (definitions : List Definition) (origin : Origin) (column line : ℕ)
      → pixel origin (with_palette drawing definitions) column line ≡ background origin
  pixel-palette definitions origin column line =
      undefined definitions (λ h. pixel origin h column line) (raster_of drawing ∷ []) (λ d g. refl)

-- the picture is as high as the drawing
pub height-palette : (drawing : Drawing) (definitions : List Definition) → IsWritable drawing
    → height (with_palette drawing definitions) ≡ drawing.height
height-palette drawing definitions is =
    grind (arith, nat_tests, undefined drawing definitions height, raster_of, raster-height drawing)

-- a height that is not zero is the last that was named
height-named : (n : ℕ) → cond (nat_lt 0 n) n 0 ≡ n
height-named n = grind (arith, nat_tests)

-- the raster attributes name the drawing's height
pub raster_height-palette : (drawing : Drawing) (definitions : List Definition) → IsWritable drawing
    → raster_height (with_palette drawing definitions) ≡ drawing.height
raster_height-palette drawing definitions is =
    undefined drawing definitions raster_height (raster_of drawing ∷ []) (λ d g. refl)
    ∙ (height-named _ ∙ raster-field3 drawing is)
