use Rattle.std.{proofs.Common.{◌<◌, ◌≤◌, ℕ, ◌*◌, ◌+◌, ◌-◌, ◌∙◌, arith}, specs.Prelude.slice_index}
use Rattle.sixel_palette.proofs.mapped_images.DiffusionLanes.{channels-rounded, lanes, lanes-max}
use Rattle.sixel_palette.proofs.mapped_images.DiffusionLanes.{lanes-minus, lanes-plus}
use Rattle.sixel_palette.proofs.mapped_images.DiffusionLanes.{lanes-saturating, lanes-splat}
use Rattle.sixel_palette.proofs.mapped_images.DiffusionLanes.{lanes-times, small-lanes}
use Rattle.sixel_palette.proofs.dithering.mapped.MappedImage.sixteenths.Goals as goal

pub returns : goal.returns
returns c =
    let pixels = c.args.self.now.pixels.now in
    let at = 4 * c.args.pixel in
    let none = 512 * c.from-none.result in
    let weak : none ≤ 4096 = omega (arith, c.from-none.ensures, c.requires.strength) in
    let behind = c.requires.errors.behind.small in
    let above = c.requires.errors.above.small in
    let beyond = c.requires.errors.beyond.small in
    let color = c.color_lanes-color.ensures.value in
    let byte : (k : ℕ) → k < 4 → slice_index pixels (at + k) < 256 =
    λ k l. omega (arith, color.each k l, c.color_lanes-color.ensures.small k l) in
    let whole = c.args.neighbors.beyond in
    let rest =
    lanes-minus _ _ _ _
    (lanes-minus _ _ _ _
    (lanes-minus _ _ (λ k. slice_index whole k) _ (lanes whole c.requires.errors.beyond.four)
    c.share.ensures (λ k l. omega arith) (λ k l. omega (arith, beyond k))) c.share-2.ensures
    (λ k l. omega arith) (λ k l. omega (arith, beyond k))) c.share-3.ensures
    (λ k l. omega arith) (λ k l. omega (arith, beyond k)) in
    let known =
    lanes-plus _ _ _ _
    (lanes-plus _ _ _ _
    (lanes-plus _ _ (λ k. slice_index pixels (at + k) * 16) _
    (lanes-times _ _ (λ k. slice_index pixels (at + k)) (λ k. 16) color (lanes-splat 16)
    (λ k l. omega (arith, byte k l))) c.share-below_before.ensures
    (λ k l. omega (arith, byte k l, behind k))) c.share-below.ensures
    (λ k l. omega (arith, byte k l, behind k, above k))) rest
    (λ k l. omega (arith, byte k l, behind k, above k, beyond k)) in
    let raised =
    lanes-saturating _ _ _ _ known (lanes-splat (61455 - none))
    (λ k l. omega (arith, byte k l, behind k, above k, beyond k)) in
    let sum = lanes-saturating _ _ _ _ raised c.next_share.ensures (λ k l. omega arith) in
    let values =
    lanes-minus _ _ _ _ (lanes-max _ _ _ _ sum (lanes-splat 61455)) (lanes-splat 61455)
    (λ k l. omega arith) (λ k l. omega arith) in
    record {
      values = record {
        four = values.four;
        each = λ k l. values.each k (omega (arith, l)) ∙ omega (arith, weak, c.from-none.ensures);
        small = small-lanes _ _ 4080 values (λ k l. omega arith);
      };
      target = channels-rounded _ _ _ _ sum values c.rounded.ensures;
    }
