use Rattle.std.proofs.Common.{◌≡◌, ℕ, List, ◌++◌, refl, subst}
use Rattle.sixel_base.specs.{Fault.Faults, Payload.{payload_fault, payload_wants}}
use Rattle.sixel_base.specs.declared.error.SixelError.{SixelError}
use Rattle.sixel_examples.proofs.chunks.decode_two_chunks.Goals as goal

pub returns-clause-image : goal.returns-clause-image
returns-clause-image c = λ image is.
    let first = c.feed.ensures.fed in
    let second = c.feed-2.ensures.fed in
    let session = c.in_ok-session.ensures.session in
    let joined =
    rw (second.origin, first.origin, second.fed.bytes refl, first.fed.bytes refl, session)
    at c.finish.ensures.finished.image in
    rw is at joined

pub returns-in-Err-clause-refused : goal.returns-in-Err-clause-refused
returns-in-Err-clause-refused c = λ error is.
    let session = c.in_ok-session.ensures.session in
    let fed = c.in-Err.ensures.fed.fed in
    let same : c.in-Err.error ≡ error = cc in
    let limit = c.args.decoder.now.pixel_limit in
    let bytes : List ℕ = c.args.first.now ++ c.args.second.now in
    subst (λ (e : SixelError). Faults e (payload_wants limit bytes) (payload_fault limit bytes))
    same
    (rw (fed.bytes refl, session) at
    (fed.refused_for_good _ c.in-Err.error c.args.second.now refl refl (rw session refl)))

pub returns-in-Err-feed-clause-refused : goal.returns-in-Err-feed-clause-refused
returns-in-Err-feed-clause-refused c = λ error is.
    let session = c.in_ok-session.ensures.session in
    let first = c.in_default.ensures.fed in
    let second = c.in-Err-feed.ensures.fed.fed in
    let same : c.in-Err-feed.error ≡ error = cc in
    let limit = c.args.decoder.now.pixel_limit in
    let bytes : List ℕ = c.args.first.now ++ c.args.second.now in
    subst (λ (e : SixelError). Faults e (payload_wants limit bytes) (payload_fault limit bytes))
    same
    (rw (second.bytes refl, first.origin, first.fed.bytes refl, session) at
    (second.refused _ c.in-Err-feed.error refl refl first.fed.ok.1))
