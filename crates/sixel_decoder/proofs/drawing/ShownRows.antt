-- The last row with a set pixel, by what a painter collects.
use Rattle.std.{proofs.Common.{◌≡◌, ◌<◌, ◌^◌, ◌∙◌, ap, arith}, proofs.lemmas.Bool.Decides.nat_tests}
use Rattle.sixel_base.{specs.DrawnHeight.drawn_height, specs.History.History, specs.Stroke.Origin}
use Rattle.sixel_canvas.specs.declared.drawing.Canvas.{Ghosts}
use Rattle.sixel_decoder.{specs.declared.painter.Painter.Painter, specs.inside.DrawnRows.drawn_rows}
use Rattle.sixel_decoder.{specs.inside.Painter.Shows, proofs.drawing.DrawnHeights.drawn_within}

pub shown_drawn : {C : Type 0} {canvas : Ghosts C} (o : Origin) (painter : Painter C canvas)
    (h : History) → Shows o painter h
    → drawn_rows painter.drawn (canvas.top painter.canvas) ≡ drawn_height h
shown_drawn o painter h shows = ap (drawn_rows painter.drawn) shows.top ∙ shows.drawn

-- it is a row of the image
pub drawn_fits : {C : Type 0} {canvas : Ghosts C} (o : Origin) (painter : Painter C canvas)
    (h : History) → Shows o painter h
    → drawn_rows painter.drawn (canvas.top painter.canvas) < 2 ^ 64
drawn_fits o painter h shows = grind (arith, nat_tests, shown_drawn, drawn_within)

-- what calls need that speak of that row
pub ruleset shown_rows = (nat_tests, shown_drawn, drawn_fits)
