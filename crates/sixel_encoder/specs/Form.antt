-- The text of a drawing in either form, and the text of an image in its own palette.
use Rattle.std.specs.Prelude.{◌≡◌, ℕ, List}
use Rattle.sixel_base.specs.Payload.{Image}
use Rattle.sixel_encoder.specs.declared.{form.TextForm.TextForm, form.TextForm.TheVariants.Plain}
use Rattle.sixel_encoder.specs.declared.form.TextForm.TheVariants.{Compact}
use Rattle.sixel_encoder.specs.{Compact.compact_text, Encoding.IsDrawing, Text.{Drawing, text_of}}

-- the text of a drawing in this form
abbrev pub form_text : TextForm → Drawing → List ℕ
form_text Plain drawing = text_of drawing
form_text Compact drawing = compact_text drawing

-- the bytes are the text of the image in this form
abbrev pub IsFormText : TextForm → Image → ℕ → List ℕ → Type 0
IsFormText form image max_colors bytes =
    (drawing : Drawing) × IsDrawing image max_colors drawing × (bytes ≡ form_text form drawing)
