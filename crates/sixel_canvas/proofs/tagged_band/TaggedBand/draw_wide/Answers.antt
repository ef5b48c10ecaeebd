use Rattle.std.proofs.Common.{◌≡◌, ℕ, ◌+◌, ◌-◌, ◌*◌, ◌/◌, ◌≤◌, ◌<◌, max, min, arith}
use Rattle.sixel_canvas.proofs.tagged_band.TaggedBand.draw_wide.Goals as goal
use Rattle.std.proofs.lemmas.Bool.Decides.{nat_tests}

painted_left : (from first tags : ℕ) → from ≤ first * 128 → first * 128 < from + 128
    → first * 128 - from + 128 * (min ((first * 128 + 127) / 128) tags - from / 128) ≤ 255
painted_left from first tags least most = omega arith

painted_right : (to extent tags last : ℕ) → last ≡ min to extent / 128 → 128 * tags ≤ extent
    → to - last * 128 + 128 * (min ((to + 127) / 128) (max tags last) - last * 128 / 128)
    ≤ 255 + (max extent to - extent)
painted_right to extent tags last is within = omega arith

pub returns-clause-drawn : goal.returns-clause-drawn
returns-clause-drawn c = grind (arith, nat_tests)

pub returns-clause-painted : goal.returns-clause-painted
returns-clause-painted c = grind (arith, nat_tests, painted_left, painted_right)
