use Rattle.std.proofs.Common.{◌≡◌, ◌-◌, length}
use Rattle.sixel_base.specs.{History.History, Stroke.Origin}
use Rattle.sixel_decoder.specs.inside.PayloadParser.{Reaches}
use Rattle.sixel_decoder.proofs.payload_parser.PayloadParser.read_chunk.Given as goal

abbrev pub invariant-bytes : goal.invariant-bytes
invariant-bytes g l =
    ((o : Origin) (h : History) → Reaches o l.initial.self h l.from l.chunk
    → Reaches o l.self h l.index l.chunk)
    × (g.C.Canvas.released l.self.painter.canvas
    ≡ g.C.Canvas.released l.initial.self.painter.canvas)

abbrev pub decreases-bytes : goal.decreases-bytes
decreases-bytes g l = length l.chunk - l.index
