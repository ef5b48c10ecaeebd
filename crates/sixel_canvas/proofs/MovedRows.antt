-- How many pixels were written to give the rows of an image another width, against its pixels.
use Rattle.std.proofs.Common.{◌≡◌, ℕ, ◌+◌, ◌-◌, ◌*◌, ◌<◌, ◌≤◌, [], ◌∷◌, List, length, max, refl}
use Rattle.std.proofs.{Common.arith, Math.Nat.{mul-le-mul, mul-le-mul_left, mul-le-mul_right}}
use Rattle.std.{proofs.lemmas.Bool.Decides.nat_tests, specs.Prelude.{nat_lt, if◌then◌else◌}}
use Rattle.sixel_canvas.specs.Drawn.{Run, band_edge, least_moved, lowest_top, right_edge}
use Rattle.sixel_canvas.{specs.Drawn.{rows_above, run, with_sixels}, specs.Paints.counted}
use Rattle.sixel_canvas.specs.inside.BandCanvas.{AreMoved, AreStored, BandCanvasState, IsLaidOut}
use Rattle.sixel_canvas.specs.inside.BandCanvas.{least_width}

-- rows that were given at least twice their width
pub moved_within : (moved rows old width : ℕ) → 2 * old ≤ width
    → counted moved (rows * width) + 2 * (rows * old) ≤ moved + 2 * (rows * width)
moved_within moved rows old width doubled = omega (arith, mul-le-mul_left rows doubled)

-- a wider picture
pub laid_wider : (canvas : BandCanvasState) (width wider : ℕ) → IsLaidOut canvas width
    → width ≤ wider → IsLaidOut canvas wider
laid_wider canvas width wider is le = grind (arith, nat_tests)

-- memory for `columns` was allocated, and then the band was drawn on
pub laid_held : (old held new : BandCanvasState) (named : ℕ) (runs : List Run) (columns : ℕ)
    → AreMoved old named runs
    → ((width : ℕ) → columns ≤ width → IsLaidOut old width → IsLaidOut held width)
    → new.expected ≡ held.expected → new.rows ≡ held.rows → new.released ≡ held.released
    → IsLaidOut new (max (least_width named runs) columns)
laid_held old held new named runs columns are laid expected rows released =
    let before : ℕ = least_width named runs in
    let wide : ℕ = max before columns in
    let is : IsLaidOut held wide =
    laid wide (omega arith) (laid_wider old before wide are.laid (omega arith)) in
    grind (arith)

-- the pixels that were written, where all rows are above this one
moved_above : (moved rows wide released width top : ℕ) → wide ≤ 2 * width
    → moved ≤ 2 * (rows * wide) + 4 * (released * width) → released + rows ≤ top
    → moved ≤ 4 * (top * width)
moved_above moved rows wide released width top narrow few above =
    omega (arith, few, mul-le-mul_left rows narrow, mul-le-mul_right width above)

-- runs more, of which one is in the band from this row on
pub moved_more : (canvas : BandCanvasState) (named : ℕ) (runs : List Run)
    → IsLaidOut canvas (least_width named runs) → canvas.released + canvas.rows.rows ≤ canvas.top
    → canvas.top ≤ lowest_top runs
    → counted 0 (least_moved named canvas.released runs) ≤ canvas.rows.moved
    → AreMoved canvas named runs
moved_more canvas named runs is above lowest many = grind (arith, nat_tests, moved_above)

-- a wider name, or more released rows, never make the least number greater
pub least_moved-less : (named named' released released' : ℕ) (runs : List Run) → named ≤ named'
    → released ≤ released' → least_moved named' released' runs ≤ least_moved named released runs
least_moved-less named named' released released' [] wide gone = omega arith
least_moved-less named named' released released' (newest ∷ runs) wide gone = grind (
  arith,
  nat_tests,
  mul-le-mul_right,
  least_moved-less named named' released released' runs,
)

-- memory for `columns` was allocated, and a run up to `right` was drawn
pub least_held : (old : BandCanvasState) (named right columns moved : ℕ) (runs : List Run)
    → AreMoved old named runs → AreStored old runs → right ≤ columns
    → counted old.rows.moved
    (if nat_lt old.rows.width columns then old.rows.rows * columns else 0) ≤ moved
    → counted 0 (least_moved named old.released runs
    + (if nat_lt (2 * least_width named runs) right
    then (rows_above runs old.top - old.released) * right else 0)) ≤ moved
least_held old named right columns moved runs are stored within held =
    grind (arith, nat_tests, mul-le-mul_right, mul-le-mul_left)

-- sixels of one column each right of what was drawn count nothing
pub least_moved-kept : (named released from top : ℕ) (sixels : List ℕ) (runs : List Run)
    → from ≤ right_edge runs → 0 < right_edge runs
    → least_moved named released (with_sixels from sixels top runs)
    ≡ least_moved named released runs
least_moved-kept named released from top [] runs near some = refl
least_moved-kept named released from top (sixel ∷ sixels) runs near some =
    grind (arith, nat_tests, least_moved-kept named released (from + 1) top sixels)

-- some sixels of one column each, of which only the first can count
pub least_sixels : (named released from top : ℕ) (sixels : List ℕ) (runs : List Run) (moved : ℕ)
    → 0 < length sixels
    → counted 0 (least_moved named released runs
    + (if nat_lt (2 * least_width named runs) (from + 1)
    then (rows_above runs top - released) * (from + 1) else 0)) ≤ moved
    → counted 0 (least_moved named released (with_sixels from sixels top runs)) ≤ moved
least_sixels named released from top [] runs moved some least = absurd (omega (arith, some))
least_sixels named released from top (sixel ∷ sixels) runs moved some least =
    grind (arith, nat_tests, least_moved-kept)

-- the band moves down: its own rows are above it then, if something was drawn on them
pub rows_above-down : (top : ℕ) (runs : List Run)
    → ((row : ℕ) → top < row → band_edge runs row ≡ 0)
    → rows_above runs (top + 6)
    ≤ max (rows_above runs top) (if nat_lt 0 (band_edge runs top) then top + 6 else 0)
rows_above-down top [] below = omega arith
rows_above-down top (newest ∷ runs) below =
    let rest = rows_above-down top runs (λ row past. grind (arith, nat_tests, below row past)) in
    grind (arith, nat_tests, below newest.top)

-- `count` rows were released
pub moved_released : (old new : BandCanvasState) (named : ℕ) (runs : List Run) (count : ℕ)
    → AreMoved old named runs → new.expected ≡ old.expected
    → new.rows.width ≡ old.rows.width → new.rows.moved ≡ old.rows.moved
    → new.rows.rows ≡ old.rows.rows - count → new.released ≡ old.released + count
    → AreMoved new named runs
moved_released old new named runs count is expected width moved rows released =
    let wide = least_width named runs in
    let most : old.rows.rows * old.rows.width
    ≤ (new.rows.rows + count) * old.rows.width =
    mul-le-mul_right old.rows.width (omega (arith, rows)) in
    record {
      laid = record {
        expected = omega (arith, is.laid.expected, expected);
        wide = omega (arith, is.laid.wide, width);
        moved = rw (moved, width, released)
            (omega (arith, is.laid.moved, most, mul-le-mul_left count is.laid.wide));
      };
      few = rw moved is.few;
      many =
          omega (
            arith,
            is.many,
            moved,
            least_moved-less named named old.released new.released runs
                (omega arith) (omega (arith, released)),
          );
    }

-- a run more in the band of the canvas
pub moved_run : (canvas : BandCanvasState) (named from to bits : ℕ) (runs : List Run)
    → IsLaidOut canvas (max (least_width named runs) to)
    → canvas.released + canvas.rows.rows ≤ canvas.top
    → counted 0 (least_moved named canvas.released (run from to canvas.top bits ∷ runs))
    ≤ canvas.rows.moved → AreMoved canvas named (run from to canvas.top bits ∷ runs)
moved_run canvas named from to bits runs is above many =
    let more : List Run = run from to canvas.top bits ∷ runs in
    moved_more canvas named more
    (laid_wider canvas (max (least_width named runs) to) (least_width named more) is (omega arith))
    above (omega arith) many

-- what rows need that are laid out in another width
pub ruleset layouts = (nat_tests, mul-le-mul, mul-le-mul_right, moved_within)

-- what a call of the canvas needs that draws nothing
pub ruleset moves = (nat_tests, mul-le-mul_left, least_moved-less, rows_above-down)
