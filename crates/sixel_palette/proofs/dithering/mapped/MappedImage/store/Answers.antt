use Rattle.std.proofs.Common.{◌≡◌, ◌<◌, ◌≤◌, ℕ, ◌*◌, ◌+◌, ◌-◌, ◌/◌, ◌∷◌, [], ap, refl, ◌∙◌, arith}
use Rattle.std.{proofs.lemmas.Nat.mul-le, specs.Prelude.{slice_index, slice_index_or}}
use Rattle.sixel_palette.proofs.mapped_images.DiffusionLanes.{lanes, lanes-plus, lanes-minus}
use Rattle.sixel_palette.proofs.mapped_images.DiffusionLanes.{lanes-times, lanes-shift, lanes-splat}
use Rattle.sixel_palette.proofs.mapped_images.DiffusionLanes.{passed-part, small-lanes}
use Rattle.sixel_palette.proofs.mapped_images.DitheredIndices.{AreEntries-set}
use Rattle.sixel_palette.specs.Dithering.{passed_on}
use Rattle.sixel_palette.proofs.dithering.mapped.MappedImage.store.Goals as goal

pub returns : goal.returns
returns c =
    let values = c.args.values in
    let strength = c.from.result in
    let same : strength ≡ c.args.self.now.strength = c.from.ensures in
    let color = slice_index_or c.args.self.now.colors.now c.args.index [] in
    let lane = slice_index_or c.args.parts.now c.args.index [] in
    let part = c.requires.parts.each c.args.index c.requires.index in
    let most : (k : ℕ) → (slice_index values k + 4096) * strength ≤ 8176 * 8 =
    λ k. mul-le (slice_index values k + 4096) strength 8176 8 (omega (arith, c.requires.values k))
    (omega (arith, same, c.requires.strength)) in
    let less : (k : ℕ) → slice_index lane k ≤ (slice_index values k + 4096) * strength =
    λ k.
    omega (
      arith,
      part.small k,
      ap (λ s. 4080 * s) same,
      mul-le 4080 strength (slice_index values k + 4096) strength (omega arith) (omega arith),
    ) in
    let all =
    lanes-shift _ _ _ _
    (lanes-minus _ _ (λ k. (slice_index values k + 4096) * strength) (λ k. slice_index lane k)
    (lanes-times _ _ (λ k. slice_index values k + 4096) (λ k. strength)
    (lanes-plus _ _ (λ k. slice_index values k) (λ k. 4096) (lanes values c.requires.four)
    (lanes-splat 4096) (λ k l. omega (arith, c.requires.values k))) (lanes-splat strength)
    (λ k l. omega (arith, most k))) (lanes lane part.four) (λ k l. less k)
    (λ k l. omega (arith, most k))) (lanes-splat 3) in
    let passed : (k : ℕ) → k < 3
    → ((slice_index values k + 4096) * strength - slice_index lane k) / 8
    ≡ passed_on c.args.self.now.strength (slice_index values k) (slice_index color k) =
    λ k l.
    rw (same, part.each k l)
    (passed-part (slice_index values k) (slice_index color k) c.args.self.now.strength
    (part.bytes k l)) in
    let value : (k : ℕ) → k < 3 → _ = λ k l. all.each k (omega (arith, l)) ∙ passed k l in
    rw c.from-2.ensures (record {
      indices = refl;
      entries = λ are.
          AreEntries-set c.args.self.now.colors.now c.args.indices.now c.args.pixel c.args.index
          c.requires.pixel are c.requires.index;
      error = λ i.
          value 0 (omega arith) i ∷ value 1 (omega arith) i ∷ value 2 (omega arith) i ∷ [];
      lanes = record {
        four = all.four;
        small = small-lanes _ _ 8176 all (λ k l. omega (arith, most k));
      };
    })
