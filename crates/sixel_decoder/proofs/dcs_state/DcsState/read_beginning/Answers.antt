use Rattle.std.proofs.Common.{◌++◌, List, ℕ, Option, None, subst, take}
use Rattle.std.proofs.lemmas.{Result.err_from_is_err_and}
use Rattle.sixel_base.specs.declared.status.SixelDcsFeedStatus.{SixelDcsFeedStatus}
use Rattle.sixel_decoder.specs.declared.dcs_state.DcsState.{DcsState}
use Rattle.sixel_decoder.specs.inside.DcsState.{IsInPayload, HasFollowed}
use Rattle.sixel_decoder.proofs.dcs_sequences.Chunks.{heading, head_fine}
use Rattle.sixel_decoder.proofs.dcs_sequences.Chunks.{all_counted}
use Rattle.sixel_decoder.proofs.dcs_sequences.Chunks.{entered_follows, entered_refuses}
use Rattle.sixel_decoder.proofs.images.FoundPayloads.{tail_whole}
use Rattle.sixel_decoder.specs.declared.dcs_state.DcsState.TheVariants as states
use Rattle.sixel_decoder.proofs.dcs_state.DcsState.read_beginning.Goals as goal

pub returns-in_err-fed-in-Payload-clause-follows : goal.returns-in_err-fed-in-Payload-clause-follows
returns-in_err-fed-in-Payload-clause-follows g c = λ before head is.
    let piece : List ℕ = c.args.chunk.now in
    let start = c.in_ok-start.start in
    let decoder = c.args.decoder.now in
    let ended = c.args.ended.now in
    let begun = c.in_ok-start.ensures.heads ended before (head_fine c.args.self.now head) is in
    let from = heading c.args.self.now decoder ended before head is in
    let now : IsInPayload c.in-Payload.reader decoder ended (before ++ take start piece) =
    subst (λ (w : DcsState _). HasFollowed w decoder ended (before ++ take start piece))
    c.in-Payload.is begun.2 in
    let refused =
    c.in_err-fed-in-Payload.ensures.follows decoder (before ++ take start piece) now in
    let p =
    err_from_is_err_and c.from_residual-in_err-fed-in-Payload.result
    c.from_residual-in_err-fed-in-Payload.ensures.1 in
    rw (p.1, p.2) (entered_refuses _ decoder.pixel_limit before piece start from.0
    (rw (tail_whole start piece) at refused))

pub returns-in_ok-fed-in-Payload-clause-follows : goal.returns-in_ok-fed-in-Payload-clause-follows
returns-in_ok-fed-in-Payload-clause-follows g c = λ before head is.
    let piece : List ℕ = c.args.chunk.now in
    let start = c.in_ok-start.start in
    let decoder = c.args.decoder.now in
    let ended = c.args.ended.now in
    let begun = c.in_ok-start.ensures.heads ended before (head_fine c.args.self.now head) is in
    let from = heading c.args.self.now decoder ended before head is in
    let now : IsInPayload c.in-Payload.reader decoder ended (before ++ take start piece) =
    subst (λ (w : DcsState _). HasFollowed w decoder ended (before ++ take start piece))
    c.in-Payload.is begun.2 in
    let unended : IsInPayload c.in-Payload.reader decoder None (before ++ take start piece) =
    subst (λ (w : Option SixelDcsFeedStatus).
    IsInPayload c.in-Payload.reader decoder w (before ++ take start piece)) from.1 now in
    let follows =
    c.in_ok-fed-in-Payload.ensures.follows decoder (before ++ take start piece) now in
    entered_follows {C = g.row.C.Denot} (states.Payload c.read_payload.new.reader) decoder
    c.read_payload.new.ended before piece start _ _ begun.0 from.0
    (all_counted c.in-Payload.reader decoder (before ++ take start piece) unended)
    (rw (tail_whole start piece) at follows)
