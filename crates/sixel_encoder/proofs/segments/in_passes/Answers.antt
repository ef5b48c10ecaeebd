use Rattle.std.{proofs.Common.{◌≡◌, [], arith}, proofs.lemmas.Bool.Decides.nat_tests}
use Rattle.std.specs.Prelude.{vec_len}
use Rattle.sixel_encoder.proofs.compact_form.PassSteps.{length-none, passes-end, passes-none}
use Rattle.sixel_encoder.{proofs.compact_form.PassSteps.passes-step, specs.Segments.passes}
use Rattle.sixel_encoder.proofs.segments.in_passes.Goals as goal

pub loop-preserved : goal.loop-preserved
loop-preserved c =
    let told = c.in_ok-push_pass.ensures in
    passes-step _ _ _ _ _ _ _ (omega (arith, c.loop-test.true)) c.loop.invariant
    (rw c.deref.ensures.value at told.ordered)
    (rw (c.deref.ensures.value, c.in_ok-rest.ensures.items) at told.rest)

pub returns-then-is_empty : goal.returns-then-is_empty
returns-then-is_empty c =
    let left = c.loop.left.items in
    let zero : vec_len c.loop.left ≡ 0 = grind (arith, nat_tests) in
    let none : left ≡ [] = length-none left (omega (arith, zero, c.loop.left.ok.0)) in
    passes-end _ _ _ _ none c.loop.invariant

pub returns : goal.returns
returns c = grind (arith, nat_tests, passes-none c.loop.left.items, passes)
