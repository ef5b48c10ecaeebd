use Rattle.std.proofs.Common.{sym}
use Rattle.sixel_encoder.proofs.drawings.SameDrawing.{IsShown-other, drawing_same}
use Rattle.sixel_encoder.proofs.one_drawing.Goals as goal

pub returns : goal.returns
returns c = λ image other max_colors drawing another bytes e is also.
    drawing_same image other max_colors drawing another c.one_palette.ensures.index e is also
    (c.one_palette.ensures.palette image.pixels other.pixels max_colors drawing.colors
    another.colors bytes
    (IsShown-other image other e) (IsShown-other other image (sym e)) is.palette also.palette)
