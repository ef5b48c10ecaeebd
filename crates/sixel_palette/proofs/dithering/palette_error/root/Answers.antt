use Rattle.std.proofs.{Common.{◌≡◌, ◌-◌, ◌+◌, suc, arith, ◌∙◌}, lemmas.Bool.Decides.nat_tests}
use Rattle.sixel_palette.proofs.mapped_images.PaletteError.{root-found, root-less}
use Rattle.sixel_palette.proofs.dithering.palette_error.root.Goals as goal

pub returns-then-root-number : goal.returns-then-root-number
returns-then-root-number c = grind (arith, c.loop-less.invariant, root-found, c.if-root-number.true)

pub loop-less-preserved : goal.loop-less-preserved
loop-less-preserved c =
    let next = 255 - (c.loop-less.less + 1) in
    let one : 255 - c.loop-less.less ≡ suc next = omega (arith, c.loop-less-test.true) in
    c.loop-less.invariant
    ∙ (grind (arith, nat_tests, c.args.number, c.if-root-number.false, root-less))

pub returns : goal.returns
returns c =
    grind (arith, nat_tests, c.loop-less.less, c.loop-less.invariant, c.args.number, root-found)
