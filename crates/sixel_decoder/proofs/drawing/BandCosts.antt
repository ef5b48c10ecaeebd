-- What the runs of a history have cost a canvas of one band, against its sixels and its bands.
use Rattle.std.proofs.Common.{◌≡◌, ℕ, ◌+◌, ◌*◌, ◌≤◌, ◌∷◌, [], None, Some, arith}
use Rattle.std.proofs.lemmas.{Bool.Decides.nat_tests, Nat.mul-le}
use Rattle.sixel_base.specs.{Clip.{clipped_height, clipped_width}, History.History, Limits.Limit}
use Rattle.sixel_base.specs.{PaintedArea.size, Payload.first_fault}
use Rattle.sixel_canvas.specs.inside.BandCanvas.{AreMoved, BandCanvasState, IsPaid}
use Rattle.sixel_canvas.specs.Drawn.{least_moved, lowest_top, right_edge, runs_paint}
use Rattle.sixel_decoder.specs.Paints.{sixels, band_columns, band_room, area_of, least_band_count}
use Rattle.sixel_decoder.specs.Paints.{least_row_writes, least_write_count, most_row_writes}
use Rattle.sixel_decoder.specs.Paints.{most_run_paints, named_width, runs_of}
use Rattle.sixel_decoder.proofs.drawing.RunCosts.{span-fits}

-- the greatest right edge of all
right_edge-history : (limit : Limit) (h : History)
    → right_edge (runs_of limit h) ≤ clipped_width limit h
right_edge-history limit [] = omega arith
right_edge-history limit (token ∷ h) = grind (arith, nat_tests, right_edge-history limit h)

-- what the sixels are counted as at most
runs_paint-history : (limit : Limit) (h : History) → first_fault limit h ≡ None
    → runs_paint (runs_of limit h) ≤ most_run_paints * sixels h
runs_paint-history limit [] is = omega arith
runs_paint-history limit (token ∷ h) is =
    grind (arith, nat_tests, runs_paint-history limit h, span-fits limit h)

-- What these tokens have painted on a canvas of one band, and its capacity.
pub band_cost : (limit : Limit) (cap painted extent tagged top : ℕ) (h : History)
    → first_fault limit h ≡ None → IsPaid cap painted extent tagged top (runs_of limit h)
    → (painted ≤ 2 * band_columns limit h + most_run_paints * sixels h)
    × (6 * cap ≤ band_room limit h) × (least_band_count limit h ≤ painted)
band_cost limit cap painted extent tagged top h faultless paid =
    grind (arith, nat_tests, runs_paint-history, right_edge-history)

-- the width after raster attributes
named_width-history : (limit : Limit) (h : History) → named_width limit h ≤ clipped_width limit h
named_width-history limit [] = omega arith
named_width-history limit (token ∷ h) = grind (arith, nat_tests, named_width-history limit h)

-- the lowest band that was drawn on
lowest_top-history : (limit : Limit) (h : History)
    → lowest_top (runs_of limit h) ≤ clipped_height limit h
lowest_top-history limit [] = omega arith
lowest_top-history limit (token ∷ h) = grind (arith, nat_tests, lowest_top-history limit h)

-- what is written at least as rows become wider
least_moved-history : (limit : Limit) (named released : ℕ) (h : History)
    → least_row_writes limit named released h ≤ least_moved named released (runs_of limit h)
least_moved-history limit named released [] = omega arith
least_moved-history limit named released (token ∷ h) =
    grind (arith, nat_tests, right_edge-history, least_moved-history limit named released h)

-- What these tokens have made a canvas of one band write as its rows became wider.
pub band_moved : (limit : Limit) (canvas : BandCanvasState) (h : History)
    → AreMoved canvas (named_width limit h) (runs_of limit h)
    → (canvas.rows.moved ≤ most_row_writes * area_of (Some (size limit h)))
    × (least_write_count limit canvas.released h ≤ canvas.rows.moved)
band_moved limit canvas h are = (
  grind (arith, nat_tests, named_width-history, right_edge-history, mul-le, lowest_top-history),
  omega (
    arith,
    are.many,
    least_moved-history limit (named_width limit h) canvas.released h,
  ),
)
