use Rattle.std.proofs.{Common.arith, lemmas.Result.{IfOk-at_ok, IfOk-weaker}}
use Rattle.sixel_encoder.specs.Encoding.{source_value}
use Rattle.sixel_encoder.proofs.drawings.RefinedText.{ShowsEntries-register}
use Rattle.sixel_encoder.proofs.drawings.Sizes.{rows-image, within-sound, none-found}
use Rattle.sixel_encoder.proofs.refined.encode_refined.Goals as goal

pub map_to_refined-requires-clause-rows : goal.map_to_refined-requires-clause-rows
map_to_refined-requires-clause-rows c =
    rows-image (source_value c.args.source.now)
    (none-found _ _ _ c.validate_source.ensures c.in_ok-validate_source.was)

pub encode_drawing-requires-clause-count : goal.encode_drawing-requires-clause-count
encode_drawing-requires-clause-count c =
    let sound = none-found _ _ _ c.validate_source.ensures c.in_ok-validate_source.was in
    let within = within-sound (source_value c.args.source.now) sound in
    rw c.deref-2.ensures.value (omega (arith, within.sized, c.in_ok-refined.ensures.count))

pub encode_drawing-requires-clause-opaque : goal.encode_drawing-requires-clause-opaque
encode_drawing-requires-clause-opaque c = rw (c.deref.ensures.value, c.deref-2.ensures.value)
    (λ pixel inside opaque.
    let told = c.in_ok-refined.ensures in
    told.known pixel (omega (arith, told.count)) opaque)

pub returns-clause-bytes : goal.returns-clause-bytes
returns-clause-bytes c =
    let bytes = IfOk-at_ok _ c.in_ok-refined.was c.map_to_refined.ensures.bytes in
    IfOk-weaker c.encode_drawing.result _ _ (λ text is. bytes) c.encode_drawing.ensures.text

pub returns-clause-text : goal.returns-clause-text
returns-clause-text c =
    let (palette, refined, spread) = rw c.from-room.ensures at c.in_ok-refined.ensures.spread in
    let image = source_value c.args.source.now in
    let made = c.in_ok-refined.refined in
    let shown = c.in_ok-refined.ensures.shown in
    IfOk-weaker c.encode_drawing.result _ _
    (λ text is. record {
      palette = palette;
      refined = refined;
      colors = made.colors.items;
      spread = spread;
      text = record {
        indices = made.indices.items;
        dithered = c.in_ok-refined.ensures.dithered;
        text = is;
      };
      exact = ShowsEntries-register image made.colors.items made.indices.items shown;
    }) (rw (c.deref.ensures.value, c.deref-2.ensures.value) at c.encode_drawing.ensures.text)
