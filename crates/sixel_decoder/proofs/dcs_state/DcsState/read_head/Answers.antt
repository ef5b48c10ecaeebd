use Rattle.std.proofs.Common.{◌≡◌, ◌++◌, ◌∷◌, [], true, List, ℕ, get_or, take, drop, ◌+◌, sym, ◌∙◌}
use Rattle.std.proofs.Common.{subst}
use Rattle.std.proofs.lemmas.{Result.err_from_is_err_and}
use Rattle.sixel_base.specs.Dcs.{stage}
use Rattle.sixel_decoder.specs.inside.DcsState.{is_head, IsStageFault}
use Rattle.sixel_decoder.proofs.dcs_sequences.Terminators.{refused_stays, pieces_join}
use Rattle.sixel_decoder.proofs.dcs_state.DcsState.read_head.Goals as goal

pub returns-in_err-step-clause-heads : goal.returns-in_err-step-clause-heads
returns-in_err-step-clause-heads g c = λ ended before fine followed.
    let chunk = c.args.chunk.now in
    let index = c.head.index in
    let now = c.head.invariant.0 ended before fine followed in
    let head : is_head c.head.self ≡ true = sym c.is_head.ensures ∙ c.if-not-is_head.false in
    let refused = c.in_err-step.ensures.steps ended (before ++ take index chunk) head now.1 in
    let e = c.in_err-step.field-0.0 in
    let p = err_from_is_err_and c.from_residual.result c.from_residual.ensures.1 in
    rw (p.1, p.2)
    (subst (λ (w : List ℕ). IsStageFault e (stage w))
    (pieces_join before chunk index c.head-test.true)
    (refused_stays e ((before ++ take index chunk) ++ (get_or chunk index 0 ∷ []))
    (drop (index + 1) chunk) refused))
