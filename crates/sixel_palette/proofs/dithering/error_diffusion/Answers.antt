use Rattle.std.proofs.{Common.{arith, ◌+◌, ◌-◌, ◌*◌, ◌≤◌}, lemmas.Bool.Decides.nat_tests}
use Rattle.sixel_palette.proofs.dithering.error_diffusion.Goals as goal

-- what is passed on is at most 510 sixteenths an eighth away from nothing
pub returns-clause-bounded : goal.returns-clause-bounded
returns-clause-bounded c = λ strength value entry small byte.
    let gap = value + 4096 - 16 * entry in
    let low : 16 * strength ≤ gap * strength = grind (arith, nat_tests) in
    let high : gap * strength ≤ 8176 * strength = grind (arith, nat_tests) in
    (omega (arith, low), omega (arith, high))
