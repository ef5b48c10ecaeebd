use Rattle.std.proofs.Common.{◌∙◌, Ok, refl, rules, subst, sym}
use Rattle.sixel_decoder.specs.FinishedImages.{IsTaken, shown_whole}
use Rattle.sixel_decoder.proofs.images.FinishedImages.{finished_as}
use Rattle.icy_sixel.specs.{ReceivedRows.pixel_so_far, Receiver.Reception, ReceiverCalls.whole_of}
use Rattle.icy_sixel.specs.inside.Receiving.{reception_of}
use Rattle.icy_sixel.proofs.receiver.SixelReceiver.finish.Goals as goal
use goal.{in-Nothing, in-Payload, in-ControlString}

-- the picture is that of the image that was open
is_taken : (c : goal.After-from_picture)
    → IsTaken (reception_of c.replace-open.result) (Ok c.in-Ok.picture)
is_taken c =
    subst (IsTaken (reception_of c.replace-open.result)) c.in-Ok.is (elim c.match-open.branch [
      | in-Nothing w ↦ let clash = sym w.picture-is ∙ c.in-Ok.is in absurd cc
      | in-Payload w ↦ rw (w.picture-is, w.in-Payload.is) w.finish-picture.ensures
      | in-ControlString w ↦
          rw (w.picture-is, w.in-ControlString.is) w.finish-picture-in-ControlString.ensures
    ])

pub returns-in-Ok-clause-finished : goal.returns-in-Ok-clause-finished
returns-in-Ok-clause-finished c =
    let image : Reception = reception_of c.replace-open.result in
    let picture = c.in-Ok.picture in
    record {
      closed = search rules;
      finished =
          rw (← c.self.view_is, ← c.self-inside.view_is, ← c.replace-open.ensures.value)
          (finished_as (shown_whole image) (λ p. p.registers) (whole_of image)
          (λ _. picture.registers) image _ picture _
          (sym (c.from_picture.ensures.image
          (pixel_so_far image.start image.form image.bytes))) refl (is_taken c).finished);
      set = search rules;
      settings = search rules;
      kept = tt;
    }
