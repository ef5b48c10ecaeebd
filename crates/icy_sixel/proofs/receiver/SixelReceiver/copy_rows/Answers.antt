use Rattle.std.proofs.Common.{◌≡◌, ◌+◌, ◌∙◌, false, ℕ, List, ap, sym, subst, refl, arith, rules}
use Rattle.std.{proofs.lemmas.Bool.Decides.nat_tests, specs.Prelude.nat_lt}
use Rattle.sixel_base.{specs.Clip.clipped_pixel, specs.Payload.tokens, specs.Stroke.Origin}
use Rattle.sixel_canvas.specs.Layout.{AreCopied}
use Rattle.sixel_decoder.{specs.FinalRows.found_pixel, specs.Reception.{HasNoPayload, IsPayloadOf}}
use Rattle.icy_sixel.proofs.StoredErrors.{lent_stored, none_stored}
use Rattle.icy_sixel.proofs.receiver.SixelReceiver.copy_rows.Goals.{in-Some, in_default}
use Rattle.icy_sixel.{specs.ReceivedRows.rows_so_far, specs.Receiver.{Receiver, Reception}}
use Rattle.icy_sixel.proofs.receiver.SixelReceiver.copy_rows.Goals as goal

pub returns-clause-copied : goal.returns-clause-copied
returns-clause-copied c =
    let image : Reception = c.args.self.now.image in
    let above : nat_lt (rows_so_far image) (c.args.first + c.args.rows) ≡ false =
    grind (arith, nat_tests, c.are_final.ensures, c.if-not-are_final.false) in
    let kept : nat_lt c.args.first image.released ≡ false =
    grind (arith, nat_tests, c.released_rows.ensures, c.if-first-released_rows.false) in
    let held = ap (λ (r : Receiver). r.image) c.self.view_is in
    record {
      verdict = rw (above, kept) c.in_ok-check_rows.ensures.verdict;
      pixels = elim c.match-payload.branch [
        | in-Some w ↦
            let payload = w.in-Some.payload.now in
            let is = subst (IsPayloadOf payload) held
            (lent_stored payload _ _ w.in-Some.ensures.lent) in
            rw w.out-is
            (subst (λ (shown : ℕ → ℕ → List ℕ). AreCopied shown c.args.first c.args.rows
            c.args.layout c.args.out.now w.copy_rows.new.out)
            (ap (λ (o : Origin). clipped_pixel o (tokens o.pixel_limit payload.bytes)) is.start
            ∙ sym (ap (found_pixel image.start) is.drawn))
            w.copy_rows.ensures.copied)
        | in_default w ↦
            let lost = subst HasNoPayload held
            (none_stored _ _ (w.in_default.ensures.none refl)) in
            let none : rows_so_far image ≡ 0 = search (rules, lost.heading) in
            let no_row : c.args.rows ≡ 0 = grind (arith, nat_tests, above, none) in
            λ row byte inside.
            let past : nat_lt row c.args.rows ≡ false = grind (arith, nat_tests, no_row) in
            rw (w.out-is, past) refl
      ];
      untouched = tt;
    }
