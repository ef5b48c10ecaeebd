use Rattle.std.proofs.Common.{◌≡◌, ◌+◌, ◌++◌, List, ℕ, Some, refl, sym, ap, ◌∙◌}
use Rattle.std.specs.Prelude.{nat_lt}
use Rattle.sixel_base.specs.{declared.error.SixelError.SixelError, Bytes.{count, first_terminator}}
use Rattle.sixel_base.specs.{Fault.Faults, Payload.{fed_fault, settled, growths}, Status.status_of}
use Rattle.sixel_decoder.proofs.{chunks.Feeds.open_follows, dcs_sequences.Chunks.payload_follows}
use Rattle.sixel_decoder.proofs.{dcs_sequences.Chunks.payload_refuses, dcs_sequences.Ends.ended_at}
use Rattle.sixel_decoder.proofs.dcs_sequences.Ends.{terminated_by}
use Rattle.sixel_decoder.proofs.dcs_state.read_payload.Goals as goal

pub returns-in-Err-clause-follows : goal.returns-in-Err-clause-follows
returns-in-Err-clause-follows g c = λ decoder before is.
    let payload : List ℕ = c.args.reader.now.bytes in
    let piece : List ℕ = c.args.chunk.now in
    let e : SixelError = c.in-Err.failed.error in
    let refused : Faults e
    (nat_lt (growths (settled payload)) (growths (settled (payload ++ piece))))
    (fed_fault c.args.reader.now.origin.pixel_limit (payload ++ piece)) =
    rw (is.accepted, c.in-Err.ensures.fed.fed.bytes refl)
    at c.in-Err.ensures.fed.fed.error in
    payload_refuses e c.args.reader.now decoder c.args.ended.now before piece is refused

pub returns-in-NeedMoreData-clause-follows : goal.returns-in-NeedMoreData-clause-follows
returns-in-NeedMoreData-clause-follows g c = λ decoder before is.
    open_follows g.row.C.Denot c.args.reader.now c.feed.new.self decoder c.args.ended.now before
    c.args.chunk.now c.in-Ok.fed is c.in-Ok.ensures.fed c.in-NeedMoreData.is

pub returns-in-Terminated-clause-follows : goal.returns-in-Terminated-clause-follows
returns-in-Terminated-clause-follows g c = λ decoder before is.
    let payload : List ℕ = c.args.reader.now.bytes in
    let piece : List ℕ = c.args.chunk.now in
    let now = c.in-Ok.ensures.fed in
    let bytes = now.fed.bytes refl in
    let told = now.fed.status in
    let stands : c.in-Ok.fed.status ≡ status_of (first_terminator c.feed.new.self.bytes) = cc in
    let t = c.in-Terminated.terminator in
    let some : first_terminator (payload ++ piece) ≡ Some t =
    ap first_terminator (sym bytes)
    ∙ terminated_by (first_terminator c.feed.new.self.bytes) t
    (sym c.in-Terminated.is ∙ stands) in
    let counted : count payload + c.in-Ok.fed.consumed ≡ count (payload ++ piece) =
    now.fed.consumed ∙ ap count bytes in
    let goes = c.end_now-end.ensures.ends payload is.ending some counted in
    payload_follows g.row.C.Denot c.args.reader.now c.feed.new.self decoder c.args.ended.now
    (Some c.end_now-end.result.status) before piece _ _ is
    now.origin bytes now.fed.ok.1 now.fed.faultless goes
    (ap Some goes.1 ∙ sym (ended_at (payload ++ piece) t some))
