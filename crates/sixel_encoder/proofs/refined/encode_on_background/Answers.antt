use Rattle.std.proofs.lemmas.{Bool.Decides.nat_tests, List.{with_items_is, get_or-map, length-map}}
use Rattle.std.proofs.lemmas.Result.{IfOk-weaker}
use Rattle.std.proofs.Common.{length, arith, ◌≡◌, ◌-◌, ◌*◌, ◌∙◌, ◌∷◌, map, max, ap, ℕ}
use Rattle.sixel_encoder.specs.{Encoding.source_value, RefinedText.{next_index, others_of}}
use Rattle.sixel_encoder.proofs.drawings.Sizes.{rows-image, within-sound, none-found}
use Rattle.sixel_encoder.proofs.refined.encode_on_background.Goals.{After-deref-2}
use Rattle.sixel_encoder.proofs.refined.encode_on_background.Goals as goal

-- the entries behind the background
moved : (c : After-deref-2)
    → c.deref-2.result.now ≡ map next_index c.in_ok-refined.refined.indices.items
moved c =
    let size = ap length c.follow_background.ensures ∙ length-map _ _ ∙ c.deref_mut.ensures.len in
    c.deref-2.ensures.value
    ∙ with_items_is c.in_ok-refined.refined.indices c.follow_background.new.indices size
    ∙ c.follow_background.ensures
    ∙ ap (map next_index) c.deref_mut.ensures.value

-- the background and the other colors
colors : (c : After-deref-2) → c.deref.result.now
    ≡ c.args.background.color ∷ c.in_ok-refined.refined.colors.items
colors c = c.deref.ensures.value ∙ c.in_ok-insert.ensures.items

-- each pixel has an index
count : (c : After-deref-2) → length c.deref-2.result.now
    ≡ c.args.source.now.width * c.args.source.now.height
count c =
    let sound = none-found _ _ _ c.validate_source.ensures c.in_ok-validate_source.was in
    let within = within-sound (source_value c.args.source.now) sound in
    let size = length-map c.in_ok-refined.refined.indices.items next_index in
    omega (arith, ap length (moved c), size, c.in_ok-refined.ensures.count, within.sized)

pub map_to_refined-requires-clause-rows : goal.map_to_refined-requires-clause-rows
map_to_refined-requires-clause-rows c =
    rows-image (source_value c.args.source.now)
    (none-found _ _ _ c.validate_source.ensures c.in_ok-validate_source.was)

pub encode_drawing-requires-clause-few : goal.encode_drawing-requires-clause-few
encode_drawing-requires-clause-few c =
    grind (arith, nat_tests, ap length (colors c), c.in_ok-refined.ensures.few)

pub encode_drawing-requires-clause-count : goal.encode_drawing-requires-clause-count
encode_drawing-requires-clause-count c = count c

pub encode_drawing-requires-clause-opaque : goal.encode_drawing-requires-clause-opaque
encode_drawing-requires-clause-opaque c = rw (colors c, moved c) (λ pixel inside opaque.
    let told = c.in_ok-refined.ensures in
    let size = length-map c.in_ok-refined.refined.indices.items next_index in
    let known = told.known pixel (omega (arith, told.count, size)) opaque in
    grind (arith, nat_tests, get_or-map, told.few))

pub returns-clause-text : goal.returns-clause-text
returns-clause-text c =
    let room : c.max-others.result ≡ others_of c.args.background.max_colors =
    c.max-others.ensures ∙ ap (λ (n : ℕ). max (n - 1) 1) c.from-count.ensures in
    let (palette, refined, spread) = rw room at c.in_ok-refined.ensures.spread in
    let made = c.in_ok-refined.refined in
    let size = ap length c.follow_background.ensures ∙ length-map _ _ ∙ c.deref_mut.ensures.len in
    let drawn = c.deref-2.ensures.value ∙ with_items_is made.indices _ size
    ∙ c.follow_background.ensures ∙ ap (map next_index) c.deref_mut.ensures.value in
    let whole = c.deref.ensures.value ∙ c.in_ok-insert.ensures.items in
    IfOk-weaker c.encode_drawing.result _ _
    (λ text is. record {
      palette = palette;
      refined = refined;
      colors = made.colors.items;
      spread = spread;
      indices = made.indices.items;
      dithered = c.in_ok-refined.ensures.dithered;
      text = is;
    }) (rw (whole, drawn) at c.encode_drawing.ensures.text)
