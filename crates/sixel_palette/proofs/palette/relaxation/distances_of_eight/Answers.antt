use Rattle.std.proofs.Common.{◌≡◌, ◌∙◌, ℕ, [], ◌∷◌, ap, get_or}
use Rattle.sixel_palette.specs.{Palette.distance, inside.Codes.color_of}
use Rattle.sixel_palette.proofs.colors.Lists.{eight_cases}
use Rattle.sixel_palette.proofs.palette.relaxation.distances_of_eight.Goals as goal

pub returns : goal.returns
returns c = λ j inside.
    let all =
    c.distance_to.result ∷ c.distance_to-2.result ∷ c.distance_to-3.result
    ∷ c.distance_to-4.result ∷ c.distance_to-5.result ∷ c.distance_to-6.result
    ∷ c.distance_to-7.result ∷ c.distance_to-8.result ∷ [] in
    let to = λ (code : ℕ). distance c.args.color (color_of code) in
    eight_cases (λ (i : ℕ). get_or all i 0 ≡ to (get_or c.eight_codes-near.result i 0))
    c.distance_to.ensures.value c.distance_to-2.ensures.value c.distance_to-3.ensures.value
    c.distance_to-4.ensures.value c.distance_to-5.ensures.value c.distance_to-6.ensures.value
    c.distance_to-7.ensures.value c.distance_to-8.ensures.value j inside
    ∙ ap to (c.eight_codes-near.ensures j inside)
