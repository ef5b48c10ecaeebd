use Rattle.std.proofs.Common.{◌≡◌, ◌+◌, ◌*◌, ◌≤◌, ap, arith, suc, ◌∙◌, refl, length}
use Rattle.std.proofs.lemmas.{Bool.Decides.nat_tests, Slice.take-put_mid}
use Rattle.sixel_base.specs.Picture.{joined}
use Rattle.sixel_palette.specs.{Pattern.moved_pixel, inside.Mapped.pattern_value}
use Rattle.sixel_palette.proofs.dithering.ordered.fill.Goals as goal

pub loop-pixel-preserved : goal.loop-pixel-preserved
unfolding joined
loop-pixel-preserved c =
    let n = c.loop-pixel.pixel in
    let image = c.args.image.now in
    let pattern = pattern_value image.colors.now c.args.pattern in
    let f = moved_pixel pattern image.width image.pixels.now in
    let own : c.copy_from_slice.new.self ≡ f n =
    rw (
      c.copy_from_slice.ensures.after,
      c.moved_channel-red.ensures,
      c.moved_channel-green.ensures,
      c.moved_channel-blue.ensures,
      c.threshold.ensures.value,
      c.threshold-in-loop-pixel.ensures.value,
      c.threshold-in-loop-pixel-2.ensures.value,
      c.color.ensures,
      c.amplitude_at-amplitude.ensures,
      c.shift_of-shift.ensures.value,
    ) refl in
    let moved = c.loop-pixel.moved in
    let four : length c.copy_from_slice.new.self ≡ 4 = ap length own in
    let inside : 4 * n + 4 ≤ length moved =
    omega (arith, c.loop-pixel.invariant.1, c.loop-pixel-test.true) in
    let next : n + 1 ≡ suc n = omega arith in (
      take-put_mid (4 * n) _ moved c.copy_from_slice.new.self (4 * (n + 1))
          (omega (arith, four)) (omega (arith, inside))
          ∙ rw (c.loop-pixel.invariant.0, own, next) refl,
      grind (arith, nat_tests, four, inside),
    )
