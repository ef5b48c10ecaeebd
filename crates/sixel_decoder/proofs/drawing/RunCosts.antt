-- What the runs of a history have cost a canvas, against its sixels and how far they reach.
use Rattle.std.proofs.Common.{◌≡◌, ℕ, ◌+◌, ◌*◌, ◌≤◌, ◌∷◌, [], None, refl, arith, ◌∙◌}
use Rattle.std.proofs.lemmas.Bool.Decides.{nat_tests}
use Rattle.sixel_base.specs.{History.History, Limits.{Limit, repeat_limit}, PaintedArea.row_extent}
use Rattle.sixel_base.specs.{PaintedArea.painted_area, Payload.first_fault, Place.{height, span}}
use Rattle.sixel_canvas.specs.{Drawn.Work, inside.RowCanvas.{RowCanvasState, HasCost, IsDrawnBy}}
use Rattle.sixel_canvas.specs.inside.RowCanvas.{row_edge, row_canvas_work, runs_most}
use Rattle.sixel_canvas.proofs.{RowCosts.drawn_cost, Totals.total-same}
use Rattle.sixel_decoder.specs.Paints.{sixels, least_count, most_sixel_paints, runs_of}
use Rattle.sixel_decoder.proofs.drawing.RowExtents.{row_extent-past}

-- the right edge of a row
row_edge-history : (limit : Limit) (h : History) (row : ℕ)
    → row_edge (runs_of limit h) row ≡ row_extent limit h row
row_edge-history limit [] row = refl
row_edge-history limit (token ∷ h) row = grind (arith, nat_tests, row_edge-history limit h row)

-- no sixel of tokens without a fault has more columns than a repeat introducer may name
pub span-fits : (limit : Limit) (h : History) → first_fault limit h ≡ None → span h ≤ repeat_limit
span-fits limit [] is = omega arith
span-fits limit (token ∷ h) is = grind (arith, nat_tests, span-fits limit h)

-- what the sixels are counted as at most
runs_most-history : (limit : Limit) (h : History) → first_fault limit h ≡ None
    → runs_most (runs_of limit h) ≤ most_sixel_paints * sixels h
runs_most-history limit [] is = omega arith
runs_most-history limit (token ∷ h) is =
    grind (arith, nat_tests, runs_most-history limit h, span-fits limit h)

-- What these tokens have cost a canvas of rows.
pub record CostsAs (work : Work) (limit : Limit) (h : History) : Type 0 where
  pub at_least : painted_area limit h ≤ work.writes
  pub at_most : work.writes ≤ 3 * painted_area limit h
  pub room : work.room ≤ 2 * painted_area limit h
  pub least : least_count limit h ≤ work.paints
  pub most : work.paints ≤ 3 * painted_area limit h + most_sixel_paints * sixels h

-- It follows from the runs that were drawn on it.
pub history_cost : (limit : Limit) (canvas : RowCanvasState) (h : History)
    → first_fault limit h ≡ None → IsDrawnBy canvas (runs_of limit h)
    → CostsAs (row_canvas_work canvas) limit h
history_cost limit canvas h faultless drawn =
    let cost : HasCost (row_canvas_work canvas) (runs_of limit h) (height h) =
    drawn_cost canvas (runs_of limit h) (height h) drawn
    (λ row past. row_edge-history limit h row ∙ row_extent-past limit h row past) in
    let area =
    total-same (row_edge (runs_of limit h)) (row_extent limit h) (height h)
    (row_edge-history limit h) in
    record {
      at_least = omega (arith, area, cost.at_least);
      at_most = omega (arith, area, cost.at_most);
      room = omega (arith, area, cost.room);
      least = cost.least;
      most = omega (arith, area, cost.most, runs_most-history limit h faultless);
    }
