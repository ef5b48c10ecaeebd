use Rattle.std.proofs.Common.{◌+◌, ◌≤◌, length, sym, ◌∙◌, ◌⊎◌, inl, inr, arith}
use Rattle.std.proofs.{lemmas.List.length-set, lemmas.Bool.cases_lt, lemmas.Bool.Decides.nat_tests}
use Rattle.icy_sixel.proofs.RegisterRange.{with_colors-done, with_colors-next}
use Rattle.icysixel.proofs.registers.copy_colors.Goals as goal

pub loop-place-preserved : goal.loop-place-preserved
loop-place-preserved c =
    let is = c.loop-place.invariant in
    grind (arith, nat_tests, length-set, is.size, with_colors-next, is.written)

pub returns : goal.returns
returns c =
    let loop = c.loop-place in
    let place = loop.place in
    let colors = c.args.colors.now in
    let end : (length loop.buf ≤ 0 + place) ⊎ (length colors ≤ place) =
    elim (cases_lt place (length colors)) [
      | inl less ↦ inl (grind arith)
      | inr all ↦ inr all
    ] in
    sym (with_colors-done loop.buf 0 place colors end) ∙ loop.invariant.written
