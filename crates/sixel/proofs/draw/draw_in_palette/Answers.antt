use Rattle.std.proofs.Common.{◌∙◌, Ok, ap, sym}
use Rattle.icy_sixel.specs.ImageView.{image_value}
use Rattle.sixel.specs.Drawing.{Painting, painting_fault}
use Rattle.sixel.proofs.Drawings.{both_read, no_call_fault}
use Rattle.sixel.proofs.draw.draw_in_palette.Goals as goal

pub returns : goal.returns
returns c =
    let image = image_value c.in_ok-image.image in
    let painting : Painting = record { colors = c.deref.result.now; image = image } in
    let colors = c.in_ok-colors.ensures ∙ ap Ok (sym c.deref.ensures.value) in
    let encoded = c.in_ok-text.ensures in (
      painting,
      both_read _ _ painting.colors image colors c.in_ok-image.ensures,
      no_call_fault (painting_fault painting) _ encoded.fault,
      encoded.text,
    )
