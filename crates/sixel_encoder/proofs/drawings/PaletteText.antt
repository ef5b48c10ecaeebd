-- What is known of the text of an image in a given palette once it is returned: the image has no
-- fault, a new decoder can read the text, and colors of transparent pixels do not affect it.
use Rattle.std.proofs.{Common.{◌≡◌, ℕ, List, arith, None, Result}, Math.Nat.mul_comm}
use Rattle.std.proofs.lemmas.Bool.Decides.{nat_tests}
use Rattle.std.specs.{Option.option_or, Prelude.{Option, IfOk}}
use Rattle.sixel_encoder.proofs.{drawings.SameDithering.drawing-alike, drawings.Sizes.within-sound}
use Rattle.sixel_base.specs.{CallFault.{CallFault, FailsBy, size_call_fault}, Payload.Image}
use Rattle.sixel_base.specs.declared.error.SixelError.{SixelError}
use Rattle.sixel_palette.specs.declared.mapping.Mapping.{Mapping}
use Rattle.sixel_encoder.specs.{Encoding.{image_fault, shown_image}, IndexedDrawing.IsPaletteText}
use Rattle.sixel_encoder.specs.declared.form.TextForm.{TextForm}
use Rattle.sixel_palette.proofs.mapped_images.DitheredIndices.{AreRowsOf}

-- the rows of an image without a fault
pub rows-sound : (image : Image) → image_fault image ≡ None → AreRowsOf image.pixels image.width
rows-sound image sound = grind (arith, nat_tests, within-sound, mul_comm)

-- images that show the same have one text in a palette
pub hidden-returned : {S : Type 0} (bytes : S → List ℕ) (result : Result S SixelError)
    (image other : Image) (colors : List (List ℕ)) (mapping : Mapping) (form : TextForm)
    (others : List ℕ) (rest : Option CallFault)
    → FailsBy (option_or (size_call_fault (image_fault image)) rest) result
    → IfOk result (λ text. IsPaletteText image colors mapping form (bytes text))
    → shown_image image ≡ shown_image other → IsPaletteText other colors mapping form others
    → IfOk result (λ text. bytes text ≡ others)
hidden-returned bytes result image other colors mapping form others rest fails is same also =
    grind (arith, nat_tests, drawing-alike, rows-sound)
