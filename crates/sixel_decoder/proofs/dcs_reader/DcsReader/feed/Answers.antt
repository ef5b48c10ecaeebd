use Rattle.std.proofs.Common.{◌≡◌, ◌∙◌, ℕ, List, ◌++◌, ap, false, refl}
use Rattle.std.{proofs.lemmas.Bool.false_from_ne_true, specs.Prelude.nat_lt}
use Rattle.sixel_base.{specs.Dcs.{dcs_fault, dcs_growths, ended_with}, specs.Fault.Faults}
use Rattle.sixel_decoder.proofs.chunks.FedImages.{image_fed, image_rejected}
use Rattle.sixel_decoder.proofs.chunks.Sessions.{followed_sound}
use Rattle.sixel_decoder.proofs.dcs_reader.DcsReader.feed.Given.{Over}
use Rattle.sixel_decoder.proofs.images.ImageEnds.{end_of, refused_begun}
use Rattle.sixel_decoder.{specs.FedImages.of_sequence_fed, specs.ImageEnds.{Extends, inside}}
use Rattle.sixel_decoder.specs.Reception.{OfString, of_sequence}
use Rattle.sixel_decoder.specs.declared.received.Status.TheVariants.{Dcs}
use Rattle.sixel_decoder.{specs.inside.DcsState.is_failed, specs.inside.DcsReader.session_of}
use Rattle.sixel_decoder.proofs.dcs_reader.DcsReader.feed.Goals as goal

pub invariant_of-self : goal.invariant_of-self
invariant_of-self g c =
    let state = c.self.inside.state in
    let accepted : is_failed state ≡ false =
    false_from_ne_true (is_failed state) c.in-Ok.ensures.failed in
    rw c.extend.ensures (c.in-Ok.ensures.follows c.self.inside.log accepted c.self.invariant).3

pub returns-in-Ok-clause-fed : goal.returns-in-Ok-clause-fed
returns-in-Ok-clause-fed g c =
    let inside = c.self.inside in
    let state = inside.state in
    let bytes : List ℕ = inside.log in
    let accepted : is_failed state ≡ false =
    false_from_ne_true (is_failed state) c.in-Ok.ensures.failed in
    let goes = c.in-Ok.ensures.follows bytes accepted c.self.invariant in
    let sound = followed_sound state inside.decoder inside.ended bytes c.self.invariant accepted in
    rw (← c.self.view_is)
    (image_fed (of_sequence (session_of inside)) _ c.args.chunk.now (of_sequence_fed c.in-Ok.fed)
    accepted goes.2 refl refl c.in-Ok.ensures.released c.extend.ensures sound
    (goes.0, ap Dcs goes.1, goes.4))

pub returns-in-Err-clause-fed : goal.returns-in-Err-clause-fed
returns-in-Err-clause-fed g c =
    let inside = c.self.inside in
    let bytes : List ℕ = inside.log in
    rw (← c.self.view_is, c.sequence_end.ensures.error)
    (image_rejected (of_sequence (session_of inside)) _ c.args.chunk.now c.in-Err.error
    (rw c.fail.ensures refl) refl refl c.extend.ensures
    (followed_sound inside.state inside.decoder inside.ended bytes c.self.invariant)
    c.in-Err.ensures.failed (λ fine. c.in-Err.ensures.follows bytes fine c.self.invariant))

-- the chunk is counted, and the end that is stored is that of all bytes
counted : (g : Over) (c : goal.After-sequence_end g)
    → (c.sequence_end.new.ended ≡ ended_with (inside (c.self.inside.log ++ c.args.chunk.now)))
    × Extends OfString c.self.inside.log (c.self.inside.log ++ c.args.chunk.now) c.args.chunk.now
    c.sequence_end.result.fed
counted g c =
    let inside = c.self.inside in
    let bytes : List ℕ = inside.log in
    let known = end_of inside.state inside.decoder inside.ended bytes c.self.invariant in
    c.sequence_end.ensures.counted bytes (record {
      begun = c.is_begun-is_begun.ensures ∙ known.begun;
      ended = c.in-Err.ensures.ended ∙ known.ended;
    })

pub returns-in-Err-clause-counted : goal.returns-in-Err-clause-counted
returns-in-Err-clause-counted g c = rw (← c.self.view_is, c.extend.ensures) (counted g c).1

pub invariant_of-self-in-Err : goal.invariant_of-self-in-Err
invariant_of-self-in-Err g c =
    let inside = c.self.inside in
    let bytes : List ℕ = inside.log in
    let told : is_failed inside.state ≡ false → Faults c.in-Err.error
    (nat_lt (dcs_growths bytes) (dcs_growths (bytes ++ c.args.chunk.now)))
    (dcs_fault inside.decoder.pixel_limit (bytes ++ c.args.chunk.now)) =
    λ fine. c.in-Err.ensures.follows bytes fine c.self.invariant in
    rw (c.fail.ensures, c.extend.ensures) (record {
      begun = refused_begun c.in-Err.error inside.state inside.decoder inside.ended bytes
          c.args.chunk.now c.self.invariant told;
      ended = (counted g c).0;
    })
