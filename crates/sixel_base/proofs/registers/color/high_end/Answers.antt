use Rattle.std.proofs.{Common.{◌≡◌, ℕ, ◌+◌, ◌-◌, ◌*◌, ◌≤◌, ap, arith}, Math.Nat.mul-le-mul_left}
use Rattle.sixel_base.proofs.registers.color.high_end.Goals as goal

-- of what lightness leaves to 100, saturation takes a part
light_end-le : (light dark saturation : ℕ) → dark + light ≡ 100 → saturation ≤ 100
    → 100 * light + 100 * saturation - light * saturation ≤ 10000
light_end-le light dark saturation whole small =
    omega (arith, mul-le-mul_left dark small, ap (λ n. n * saturation) whole)

pub returns-else-lightness-lt50-clause-limit : goal.returns-else-lightness-lt50-clause-limit
returns-else-lightness-lt50-clause-limit c =
    light_end-le c.args.lightness (100 - c.args.lightness) c.args.saturation (omega arith)
    c.requires.saturated
