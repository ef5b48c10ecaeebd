use Rattle.std.proofs.Common.{◌≡◌, ◌<◌, ◌≤◌, ℕ, ◌*◌, ◌∷◌, [], refl, sym, ◌∙◌, arith}
use Rattle.std.{proofs.lemmas.Nat.mul-le, specs.Prelude.slice_index}
use Rattle.sixel_palette.{proofs.colors.Distance.below_three, proofs.colors.Lists.four_cases}
use Rattle.sixel_palette.proofs.mapped_images.DiffusionLanes.{lanes, lanes-cast, lanes-splat}
use Rattle.sixel_palette.proofs.mapped_images.DiffusionLanes.{lanes-times, small-lanes}
use Rattle.sixel_palette.proofs.dithering.mapped.MappedImage.part.Goals as goal

pub returns : goal.returns
returns c =
    let color =
    slice_index c.args.color 0 ∷ slice_index c.args.color 1 ∷ slice_index c.args.color 2 ∷ 0
    ∷ [] in
    let strength = c.from-strength.result in
    let same : strength ≡ c.args.self.now.strength = c.from-strength.ensures in
    let channel = c.channel_bytes.ensures in
    let byte : (k : ℕ) → k < 4 → slice_index color k < 256 =
    four_cases (λ k. slice_index color k < 256) (channel 0 (omega arith))
    (channel 1 (omega arith)) (channel 2 (omega arith)) (omega arith) in
    let low : (k : ℕ) → k < 4 → slice_index color k * (16 * strength) ≤ 4080 * strength =
    λ k l.
    omega (
      arith,
      mul-le (slice_index color k) strength 255 strength (omega (arith, byte k l)) (omega arith),
    ) in
    let all =
    lanes-times _ _ (λ k. slice_index color k) (λ k. 16 * strength)
    (lanes-cast _ _ (lanes color refl)) (lanes-splat (16 * strength))
    (λ k l. omega (arith, low k l, same, c.requires)) in
    rw (sym same) (record {
      four = all.four;
      bytes = channel;
      each = below_three _ (all.each 0 (omega arith) ∙ omega arith)
          (all.each 1 (omega arith) ∙ omega arith) (all.each 2 (omega arith) ∙ omega arith);
      small = small-lanes _ _ (4080 * strength) all low;
    })
