use Rattle.std.proofs.Common.{arith}
use Rattle.sixel_canvas.proofs.Pixels.{put_mid-filled}
use Rattle.sixel_canvas.proofs.span.paint_pixels.Goals as goal

pub returns : goal.returns
returns c =
    put_mid-filled c.args.bytes.now c.fill_rgba_span.new.span c.args.color c.args.from c.args.to
    c.requires.ordered c.requires.within (omega arith) (omega arith)
    (λ k h. c.fill_rgba_span.ensures k (omega arith))
