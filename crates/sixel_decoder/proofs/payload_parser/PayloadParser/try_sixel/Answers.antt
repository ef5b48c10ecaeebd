use Rattle.std.proofs.Common.{[], ◌∷◌, ◌-◌, arith}
use Rattle.sixel_base.specs.{History.Sixel, Lenient.effective}
use Rattle.sixel_decoder.proofs.drawing.{LenientTokens.has_drawn_more, SixelRuns.Stands-one}
use Rattle.sixel_decoder.proofs.payload_parser.PayloadParser.try_sixel.Goals as goal

pub returns-clause-stands : goal.returns-clause-stands
returns-clause-stands g c = λ drawn o h stands.
    let closed = c.if-not-try_close.ensures in
    Stands-one o _ h (c.args.byte ∷ []) (closed.ground drawn) (omega arith) c.requires
    (has_drawn_more o _ _ (Sixel (c.args.byte - 63)) h
    (c.draw_column.ensures.shows o (effective o.pixel_limit h)
    (closed.shows drawn o h stands).shows)
    (closed.shows drawn o h stands).count)
