use Rattle.std.proofs.Common.{◌≡◌, ◌+◌, ◌≤◌, length, ap, sym, ◌∙◌, ◌⊎◌, inl, inr, arith}
use Rattle.std.proofs.lemmas.Bool.{cases_lt}
use Rattle.sixel_base.specs.declared.state.DecoderState.{DecoderState}
use Rattle.icy_sixel.proofs.RegisterRange.{with_colors-done, with_colors-next}
use Rattle.icy_sixel.specs.Registers.{with_colors}
use Rattle.icy_sixel.proofs.decoder.SixelDecoder.set_registers.Goals as goal

pub loop-place-preserved : goal.loop-place-preserved
loop-place-preserved c =
    let is = c.loop-place.invariant in
    let set = c.set.ensures in
    grind (arith, set.size, set.defined, with_colors-next, is.colored, is.crop, is.limit)

pub returns : goal.returns
returns c =
    let loop = c.loop-place in
    let place = loop.place in
    let first = c.args.first in
    let colors = c.args.colors.now in
    let registers = loop.self-inside.state.registers in
    let end : (length registers ≤ first + place) ⊎ (length colors ≤ place) =
    elim (cases_lt place (length colors)) [
      | inl less ↦
          let last : first + place ≡ 256 = grind arith in
          inl (omega (arith, last, loop.invariant.registers (grind arith)))
      | inr all ↦ inr all
    ] in
    let same : registers ≡ with_colors c.args.self.now.registers first colors =
    sym (with_colors-done registers first place colors end)
    ∙ loop.invariant.colored
    ∙ ap (λ (state : DecoderState). with_colors state.registers first colors) c.self.view_is in
    grind arith
