use Rattle.std.proofs.Common.{◌≡◌, ◌+◌, [], ◌∷◌, ◌++◌, ap, arith, sym, ◌∙◌, take, true}
use Rattle.std.specs.{Prelude.if◌then◌else◌, Prelude.is_ok, Vec.vec_len}
use Rattle.std.proofs.lemmas.List.{take_more}
use Rattle.icy_sixel.proofs.Outcomes.{AreOutcomes-push}
use Rattle.icy_sixel.proofs.script.take_steps.Goals as goal

pub loop-step-preserved : goal.loop-step-preserved
loop-step-preserved c =
    let before = take c.loop-step.step-index c.args.steps.now in
    let old = c.loop-step.outcomes in
    let more = old.items ++ c.take_step-outcome.result ∷ [] in
    let taken : take (c.loop-step.step-index + 1) c.args.steps.now
    ≡ before ++ c.step-item.result ∷ [] =
    take_more c.args.steps.now c.loop-step.step-index c.step-item.result c.loop-step-test.true
    ∙ ap (λ w. before ++ w ∷ []) (sym c.step-item.is) in
    let is_pushed : is_ok c.push.result ≡ true = ap is_ok c.unwrap.ensures in
    let pushed : c.push.new.self.items ≡ more =
    c.push.ensures.items ∙ ap (λ ok. if ok then more else old.items) is_pushed in
    let len : vec_len c.push.new.self ≡ vec_len old + 1 =
    c.push.ensures.len ∙ ap (λ ok. if ok then vec_len old + 1 else vec_len old) is_pushed in
    record {
      outcomes =
          rw (taken, pushed) (AreOutcomes-push c.args.decoder.now c.loop-step.decoder _ before
          old.items c.step-item.result c.take_step-outcome.result c.loop-step.invariant.outcomes
          c.take_step-outcome.ensures);
      len = omega (arith, len);
      room = omega arith;
    }
