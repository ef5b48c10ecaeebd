use Rattle.std.proofs.Common.{◌≡◌, ℕ, true, List, [], ◌∷◌, ◌++◌, length, arith, refl, ap, sym, ◌∙◌}
use Rattle.std.proofs.{Common.{subst, append_assoc, append-nil}, lemmas.Bool.Decides.nat_tests}
use Rattle.std.proofs.{lemmas.List.take-append-drop, lemmas.Result.err_from_is_err_and}
use Rattle.std.specs.Prelude.{◌==◌}
use Rattle.sixel_base.specs.{Fault.Faults, Payload.{payload_fault, payload_wants}}
use Rattle.sixel_base.specs.declared.error.SixelError.{SixelError}
use Rattle.icy_sixel.specs.{Receiver.{is_open, start_of}, declared.receiver.FailedFeed.FailedFeed}
use Rattle.sixel_examples.proofs.host.Terminal.payload.Goals as goal

pub returns-in_err-feed-clause-refused : goal.returns-in_err-feed-clause-refused
returns-in_err-feed-clause-refused c =
    let now = c.chunks.invariant in
    let s = c.in_err-feed.ensures in
    let failed : FailedFeed = c.in_err-feed.field-0.0 in
    let told : SixelError = failed.error in
    let before : List ℕ = c.chunks.self.receiver.image.bytes in
    let after : List ℕ = c.split_at.result.1.now in
    let fed : List ℕ = c.feed.new.self.image.bytes in
    let p = err_from_is_err_and c.from_residual.result c.from_residual.ensures.1 in
    let whole : fed ++ after ≡ c.args.bytes.now =
    rw (s.fed.bytes (ap is_open now.form), c.split_at.ensures.front, c.split_at.ensures.back)
    (append_assoc before _ _
    ∙ (ap (λ w. before ++ w) (take-append-drop _ c.chunks.rest.now) ∙ now.bytes)) in
    let limit = (start_of c.args.self.now.receiver).pixel_limit in
    rw (p.1, p.2)
    (subst (λ (w : List ℕ). Faults told (payload_wants limit w) (payload_fault limit w)) whole
    (rw now.start at
    (s.fed.refused_for_good c.args.settings told after now.form refl now.accepted)))

no_bytes : (bytes : List ℕ) → true ≡ (length bytes == 0) → bytes ≡ []
no_bytes [] is = refl
no_bytes (byte ∷ bytes) is = absurd (grind (arith, nat_tests))

pub returns-clause-image : goal.returns-clause-image
returns-clause-image c =
    let now = c.chunks.invariant in
    let none : c.chunks.rest.now ≡ [] = no_bytes c.chunks.rest.now c.chunks-test.ensures in
    let whole : c.chunks.self.receiver.image.bytes ≡ c.args.bytes.now =
    sym (append-nil c.chunks.self.receiver.image.bytes)
    ∙ (ap (λ w. c.chunks.self.receiver.image.bytes ++ w) (sym none) ∙ now.bytes) in
    rw (now.form, now.start, whole)
    at (c.finish_image.ensures.finished now.whole).finished.found_image
