use Rattle.std.proofs.Common.{◌∙◌, arith, rules}
use Rattle.sixel_base.specs.Payload.{settled_tokens}
use Rattle.sixel_decoder.proofs.drawing.BandCosts.{band_moved}
use Rattle.sixel_decoder.proofs.payload_reader.PayloadReader+BandCanvas.writes.Goals as goal

pub returns : goal.returns
returns c =
    let session = c.args.self.now in
    let limit = session.origin.pixel_limit in
    let is = c.in-Some.ensures.lent in
    let moved = band_moved limit c.in-Some.painter.now.canvas
    (settled_tokens limit session.bytes) is.shows.paid.1 in
    record {
      value = c.writes.ensures ∙ is.writes;
      at_least = λ accepted. rw (← is.released) (omega (arith, c.writes.ensures, moved.1));
      at_most = omega (arith, c.writes.ensures, moved.0);
      refused = λ lost. search (rules, is.accepted);
    }
