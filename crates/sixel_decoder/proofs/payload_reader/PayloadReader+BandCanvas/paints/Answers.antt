use Rattle.std.proofs.Common.{◌∙◌, arith, rules}
use Rattle.sixel_base.specs.Payload.{settled_tokens}
use Rattle.sixel_canvas.specs.inside.TaggedBand.{capacity}
use Rattle.sixel_decoder.proofs.drawing.{BandCosts.band_cost, LenientTokens.sixels-settled}
use Rattle.sixel_decoder.proofs.payload_reader.PayloadReader+BandCanvas.paints.Goals as goal

pub returns : goal.returns
returns c =
    let session = c.args.self.now in
    let limit = session.origin.pixel_limit in
    let is = c.in-Some.ensures.lent in
    let canvas = c.in-Some.painter.now.canvas in
    let cost =
    band_cost limit (capacity canvas.band) canvas.band.painted canvas.band.pixels.extent
    canvas.band.tags.extent canvas.top (settled_tokens limit session.bytes) is.shows.faultless
    is.shows.paid.0 in
    let value = c.paints.ensures ∙ is.paints in
    record {
      value = value;
      at_least = λ accepted. omega (arith, cost.2, c.paints.ensures);
      at_most = omega (arith, cost.0, sixels-settled limit session.bytes, c.paints.ensures);
      room = omega (arith, cost.1, is.room);
      refused = λ lost. search (rules, is.accepted);
    }
