use Rattle.std.proofs.Common.{ℕ, List, refl, rules}
use Rattle.icy_sixel.proofs.{Chunks.fed_counted, StoredErrors.fed_failed, StoredErrors.fed_ok}
use Rattle.icy_sixel.specs.declared.receiver.SixelReceiver.TheInside.{Inside}
use Rattle.icy_sixel.proofs.receiver.SixelReceiver.feed.Goals as goal
use goal.{in-Nothing, in-Payload+in-Err, in-ControlString+in-Err-feed}

pub returns-in-Ok-feed : goal.returns-in-Ok-feed
returns-in-Ok-feed c =
    rw (← c.self.view_is, c.in-ControlString.is, c.of_sequence.ensures)
    (let fed = fed_ok _ _ _ c.args.piece.now _ c.in-Ok-feed.ensures.fed in record {
      decoder = refl;
      settings = (refl, refl, refl);
      fed = fed;
      failure = refl;
      counted = fed_counted _ _ c.args.piece.now _ fed;
    })

pub returns : goal.returns
returns c =
    let old : Inside = c.self.inside in
    let new : Inside =
    record c.match-self.self-inside { failure = c.first_failed.new.failure } in
    let piece : List ℕ = c.args.piece.now in
    rw (← c.self.view_is) (elim c.match-self.branch [
      | in-Nothing w ↦
          fed_failed old new piece c.match-self.failed _ (rw w.self-inside-is refl)
          (rw w.self-inside-is (refl, refl, refl)) c.self.invariant
          (rw (w.self-inside-is, w.in-Nothing.is, w.failed-is) (search rules))
          (rw (w.self-inside-is, w.in-Nothing.is, w.failed-is) (search rules))
          (rw w.self-inside-is at c.first_failed.ensures)
      | in-Payload+in-Err w ↦
          fed_failed old new piece c.match-self.failed _ (rw w.self-inside-is refl)
          (rw w.self-inside-is (refl, refl, refl)) c.self.invariant
          (rw (w.self-inside-is, w.in-Payload.is, w.failed-is) w.in-Err.ensures.fed.fed)
          (rw (w.self-inside-is, w.in-Payload.is, w.failed-is) w.in-Err.ensures.counted)
          (rw w.self-inside-is at c.first_failed.ensures)
      | in-ControlString+in-Err-feed w ↦
          fed_failed old new piece c.match-self.failed _ (rw w.self-inside-is refl)
          (rw w.self-inside-is (refl, refl, refl)) c.self.invariant
          (rw (w.self-inside-is, w.in-ControlString.is, w.failed-is) w.in-Err-feed.ensures.fed)
          (rw (w.self-inside-is, w.in-ControlString.is, w.failed-is) w.in-Err-feed.ensures.counted)
          (rw w.self-inside-is at c.first_failed.ensures)
    ])
