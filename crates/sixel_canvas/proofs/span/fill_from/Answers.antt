use Rattle.std.proofs.Common.{arith}
use Rattle.sixel_canvas.proofs.Pixels.{put_mid-colored}
use Rattle.sixel_canvas.proofs.span.fill_from.Goals as goal

pub returns : goal.returns
returns c =
    put_mid-colored c.args.bytes.now c.fill_rgba_span.new.span c.args.color c.args.start
    c.args.count c.requires (omega arith) (omega arith)
    (λ k h. c.fill_rgba_span.ensures k (omega arith))
