use Rattle.std.proofs.Common.{◌∙◌, arith, rules}
use Rattle.sixel_base.specs.Payload.{settled_tokens}
use Rattle.sixel_decoder.proofs.drawing.{LenientTokens.sixels-settled, RunCosts.history_cost}
use Rattle.sixel_decoder.proofs.payload_reader.PayloadReader+RowCanvas.paints.Goals as goal

pub returns : goal.returns
returns c =
    let session = c.args.self.now in
    let limit = session.origin.pixel_limit in
    let is = c.in-Some.ensures.lent in
    let cost = history_cost limit c.in-Some.painter.now.canvas
    (settled_tokens limit session.bytes) is.shows.faultless is.shows.paid in
    record {
      value = c.paints.ensures ∙ is.paints;
      at_least = λ accepted. omega (arith, c.paints.ensures, cost.least);
      at_most = omega (arith, c.paints.ensures, cost.most, sixels-settled limit session.bytes);
      refused = λ lost. search (rules, is.accepted);
    }
