use Rattle.std.{proofs.Common.{◌≡◌, ◌≤◌, length, take}, specs.Vec.{vec_len, vec_capacity}}
use Rattle.icy_sixel.specs.Script.{AreOutcomes}
use Rattle.icy_sixel.proofs.script.take_steps.Given as goal

abbrev pub invariant-loop-step : goal.invariant-loop-step
invariant-loop-step l = record {
  outcomes : AreOutcomes l.fn.decoder (take l.step-index l.steps) l.outcomes.items l.decoder;
  len : vec_len l.outcomes ≡ l.step-index;
  room : length l.steps ≤ vec_capacity l.outcomes;
}
