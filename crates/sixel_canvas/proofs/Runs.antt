-- What runs of one column each, and one run more, do to right edges, columns and counts.
use Rattle.std.proofs.Common.{◌≡◌, ℕ, ◌+◌, ◌*◌, ◌<◌, ◌≤◌, max, List, [], ◌∷◌, length, take}
use Rattle.std.proofs.{Common.{length-take, arith}, lemmas.Bool.Decides.nat_tests}
use Rattle.sixel_canvas.specs.Drawn.{Run, band_edge, drawn_columns, lowest_top, right_edge}
use Rattle.sixel_canvas.specs.Drawn.{rows_above, run, runs_cost, runs_paint, with_sixels}
use Rattle.sixel_canvas.specs.{Paints.counted, inside.BandCanvas.IsPaid}

-- what sixels of one column each, drawn after some runs, make of their edges, rows and columns
record AreDrawn (from : ℕ) (sixels : List ℕ) (top : ℕ) (runs all : List Run) : Type 0 where
  edge : right_edge runs ≤ right_edge all
  last : 0 < length sixels → from + length sixels ≤ right_edge all
  lowest : lowest_top runs ≤ lowest_top all
  here : 0 < length sixels → top ≤ lowest_top all
  most : band_edge all top ≤ max (band_edge runs top) (from + length sixels)
  kept : band_edge runs top ≤ band_edge all top
  cost : runs_cost all ≤ runs_cost runs + length sixels
  others : (row : ℕ) → top < row → band_edge all row ≡ band_edge runs row
  above : rows_above all top ≡ rows_above runs top
  spent : 2 * drawn_columns runs + runs_paint runs + 640 * length sixels + band_edge all top
      ≤ 2 * drawn_columns all + runs_paint all + band_edge runs top

are_drawn : (from : ℕ) (sixels : List ℕ) (top : ℕ) (runs : List Run) →
    AreDrawn from sixels top runs (with_sixels from sixels top runs)
are_drawn from [] top runs = grind (arith, nat_tests)
are_drawn from (sixel ∷ sixels) top runs =
    let rest = are_drawn (from + 1) sixels top (run from (from + 1) top sixel ∷ runs) in
    grind (arith, nat_tests)

-- the right edge of some runs, and that of sixels after them
pub edges : (from : ℕ) (sixels : List ℕ) (top : ℕ) (runs : List Run) (len : ℕ) → 0 < len →
    len ≤ length sixels →
    max (right_edge runs) (from + len) ≤ right_edge (with_sixels from (take len sixels) top runs)
edges from sixels top runs len some few =
    let all = are_drawn from (take len sixels) top runs in grind (arith, nat_tests, length-take)

pub lowest_here : (from : ℕ) (sixels : List ℕ) (top : ℕ) (runs : List Run) (len : ℕ) → 0 < len →
    len ≤ length sixels → top ≤ lowest_top (with_sixels from (take len sixels) top runs)
lowest_here from sixels top runs len some few =
    let all = are_drawn from (take len sixels) top runs in grind (arith, nat_tests, length-take)

-- the rows of the bands above them
pub above_here : (from : ℕ) (sixels : List ℕ) (top : ℕ) (runs : List Run)
    → rows_above (with_sixels from sixels top runs) top ≡ rows_above runs top
above_here from sixels top runs = (are_drawn from sixels top runs).above

pub paid-sixels :
    (cap cap' painted painted' extent extent' tagged tagged' top from len : ℕ) (sixels : List ℕ)
    (runs : List Run) → IsPaid cap painted extent tagged top runs → 0 < len →
    len ≤ length sixels → len ≤ 8 → cap' ≤ max cap (2 * (from + len) + 16) →
    counted painted 8 ≤ painted' → painted' ≤ painted + 264 →
    extent' ≡ max extent (from + len) → tagged' ≡ tagged →
    IsPaid cap' painted' extent' tagged' top (with_sixels from (take len sixels) top runs)
paid-sixels cap cap' painted painted' extent extent' tagged tagged' top from len sixels runs is some
    few eight cap_is cost_is painted_is extent_is tagged_is =
    let all = are_drawn from (take len sixels) top runs in grind (arith, nat_tests, length-take)
