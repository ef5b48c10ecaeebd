use Rattle.std.proofs.{Common.{◌≤◌, length, arith}, lemmas.Bool.Decides.nat_tests}
use Rattle.sixel_palette.proofs.traversal.Apart.{apart_from_least, bound_from_apart}
use Rattle.sixel_palette.proofs.traversal.Apart.{least_from_apart}
use Rattle.sixel_palette.proofs.palette.witnesses_hold.Goals as goal

pub returns-else-witnesses-lt2-clause-apart : goal.returns-else-witnesses-lt2-clause-apart
returns-else-witnesses-lt2-clause-apart c = (
  λ yes.
      let least : c.args.error ≤ c.least_apart.result = grind (arith, nat_tests) in
      apart_from_least _ _ _ c.least_apart.ensures least,
  λ apart.
      let many : 2 ≤ length c.args.witnesses.now = omega (arith, c.if-witnesses-lt2.false) in
      let least = least_from_apart _ _ _ c.least_apart.ensures many apart in
      grind (arith, nat_tests),
)

pub returns-else-witnesses-lt2-clause-bound : goal.returns-else-witnesses-lt2-clause-bound
returns-else-witnesses-lt2-clause-bound c = λ yes.
    let least : c.args.error ≤ c.least_apart.result = grind (arith, nat_tests) in
    bound_from_apart _ _ (apart_from_least _ _ _ c.least_apart.ensures least)
