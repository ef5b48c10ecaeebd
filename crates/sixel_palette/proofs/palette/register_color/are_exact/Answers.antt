use Rattle.std.proofs.Common.{◌≡◌, ℕ, refl, inl, inr, ap, sym, subst, ◌∙◌, arith}
use Rattle.std.{proofs.lemmas.Bool.{cases_lt, false≢true}, specs.Prelude.slice_index}
use Rattle.sixel_palette.{specs.Palette.rank, specs.Refined.{IsRegisterColor, register_color}}
use Rattle.sixel_palette.{specs.inside.Codes.color_of, proofs.colors.Colors.rank-color_of}
use Rattle.sixel_palette.proofs.refinement.Refined.{register_color-own, register_color-shown}
use Rattle.sixel_palette.proofs.palette.register_color.are_exact.Goals as goal

pub returns-then-code_of-code : goal.returns-then-code_of-code
returns-then-code_of-code c = (
  λ no. absurd (false≢true no),
  λ all.
      let code = slice_index c.args.codes.now c.loop-code.code-index in
      let shown : color_of c.code_of.result ≡ register_color (color_of code) =
      c.code_of.ensures.color ∙ c.register_color.ensures ∙ ap register_color c.color_of.ensures in
      let own =
      register_color-own (color_of code)
      (all _ (c.loop-code.code-index, c.loop-code-test.true, refl)) in
      let same = sym (rank-color_of c.code_of.result) ∙ ap rank (shown ∙ own) in
      absurd (c.if-code_of-code.true (same ∙ rank-color_of code)),
)

pub loop-code-preserved : goal.loop-code-preserved
loop-code-preserved c = λ k l. elim (cases_lt k c.loop-code.code-index) [
  | inl below ↦ c.loop-code.invariant k below
  | inr past ↦
      let code = slice_index c.args.codes.now c.loop-code.code-index in
      let shown : color_of c.code_of.result ≡ register_color (color_of code) =
      c.code_of.ensures.color ∙ c.register_color.ensures ∙ ap register_color c.color_of.ensures in
      subst (λ (n : ℕ). IsRegisterColor (color_of (slice_index c.args.codes.now n)))
      (omega (arith, l, past))
      (subst IsRegisterColor (sym shown ∙ ap color_of c.if-code_of-code.false)
      (register_color-shown (color_of code)))
]

pub returns : goal.returns
returns c = (
  λ yes color listed.
      rw (← listed.2) (c.loop-code.invariant listed.0 (omega (
        arith,
        listed.1,
        c.loop-code-test.false,
      ))),
  λ all. refl,
)
