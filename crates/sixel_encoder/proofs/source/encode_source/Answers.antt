use Rattle.std.{proofs.Common.arith, proofs.lemmas.Result.IfOk-weaker}
use Rattle.sixel_encoder.{specs.Encoding.source_value, proofs.drawings.IndexedText.IsDrawing-chosen}
use Rattle.sixel_encoder.proofs.drawings.Sizes.{within-sound, none-found}
use Rattle.sixel_encoder.proofs.source.encode_source.Goals as goal

pub encode_drawing-requires-clause-count : goal.encode_drawing-requires-clause-count
encode_drawing-requires-clause-count c =
    let sound = none-found _ _ _ c.validate_source.ensures c.in_ok-validate_source.was in
    let within = within-sound (source_value c.args.source.now) sound in
    rw c.deref-2.ensures.value
    (omega (arith, within.sized, c.in_ok-choice.ensures.indices.one_each))

pub encode_drawing-requires-clause-opaque : goal.encode_drawing-requires-clause-opaque
encode_drawing-requires-clause-opaque c = rw (c.deref.ensures.value, c.deref-2.ensures.value)
    (λ pixel inside opaque.
    let are = c.in_ok-choice.ensures.indices in
    (are.opaque pixel (omega (arith, are.one_each)) opaque).entry)

pub returns-clause-text : goal.returns-clause-text
returns-clause-text c =
    let image = source_value c.args.source.now in
    let told = c.in_ok-choice.ensures in
    let choice = c.in_ok-choice.choice in
    let drawn =
    IsDrawing-chosen image c.args.max_colors choice.colors.items choice.indices.items told.palette
    told.indices in
    IfOk-weaker c.encode_drawing.result _ _ (λ text is. (_, drawn, is.text))
    (rw (c.deref.ensures.value, c.deref-2.ensures.value) at c.encode_drawing.ensures.text)

pub returns-clause-bytes : goal.returns-clause-bytes
returns-clause-bytes c =
    IfOk-weaker c.encode_drawing.result _ _ (λ text is. c.in_ok-choice.ensures.bytes)
    c.encode_drawing.ensures.text
