use Rattle.std.proofs.Common.{◌≡◌}
use Rattle.sixel_base.specs.{History.History, Stroke.Origin}
use Rattle.sixel_decoder.specs.inside.PayloadParser.{Reaches, Stands}
use Rattle.sixel_decoder.proofs.payload_parser.PayloadParser.feed.Given as goal

abbrev pub invariant-front : goal.invariant-front
invariant-front g l =
    ((o : Origin) (h : History) → Stands o l.initial.self h → Reaches o l.self h l.index l.chunk)
    × (g.C.Canvas.released l.self.painter.canvas
    ≡ g.C.Canvas.released l.initial.self.painter.canvas)
