-- What a painter shows once sixels of one column each were drawn on its canvas: the pixels that
-- they cover, and the runs that they are.
use Rattle.std.proofs.Common.{◌≡◌, ℕ, suc, ◌+◌, ◌≤◌, ◌-◌, Bool, List, [], ◌∷◌, ◌++◌, length, get_or}
use Rattle.std.proofs.Common.{take, get_or-take, subst, refl, sym, ◌∙◌, arith}
use Rattle.std.specs.Prelude.{nat_lt, nat_le, ◌&&◌, if◌then◌else◌}
use Rattle.std.proofs.lemmas.{Bool.Decides.nat_tests, List.get_or_past}
use Rattle.sixel_base.specs.{Clip.clipped_pixel, DrawnHeight.lowered, History.{Sixel, History}}
use Rattle.sixel_base.specs.{Limits.Limit, Picture.{covers, is_struck}, Place.{span, across, down}}
use Rattle.sixel_base.specs.Stroke.{Origin, pixel, color}
use Rattle.sixel_base.proofs.Sixels.{blank_set}
use Rattle.sixel_canvas.specs.declared.drawing.Canvas.{Ghosts}
use Rattle.sixel_decoder.specs.declared.painter.Painter.{Painter}
use Rattle.sixel_decoder.specs.inside.{DrawnRows.drawn_rows, Painter.Shows, Runs.most_rows}
use Rattle.sixel_decoder.specs.Paints.{named_width, runs_of}
use Rattle.sixel_decoder.proofs.drawing.{Clips.fails_third, DrawnHeights.drawn_height-sixels}
use Rattle.sixel_decoder.proofs.drawing.{DrawnHeights.most_rows-first, SixelRuns.with_sixels}
use Rattle.sixel_decoder.proofs.drawing.SixelRuns.{IsInside, IsInside-sixel, IsPassed-sixels}
use Rattle.sixel_canvas.specs.Drawn.{Run, run, covers_eight, with_sixels as with_runs}

-- whether some of these sixels of one column each covers the pixel
abbrev covers_all : ℕ → List ℕ → ℕ → ℕ → ℕ → Bool
covers_all from sixels top column row =
    nat_le from column && nat_lt column (from + length sixels)
    && is_struck top (get_or sixels (column - from) 0) row

-- one sixel, and then others
covers_more : (from bits top column row : ℕ) (more ink old : List ℕ)
    → (if covers_all (from + 1) more top column row then ink
    else (if covers from (from + 1) top bits column row then ink else old))
    ≡ (if covers_all from (bits ∷ more) top column row then ink else old)
covers_more from bits top column row more ink old = grind (arith, nat_tests)

-- the pixels then
pixel-sixels : (o : Origin) (h : History) (sixels : List ℕ) (column row : ℕ) → span h ≡ 1
    → pixel o (with_sixels h sixels) column row
    ≡ (if covers_all (across h) sixels (down h) column row then color o h ++ 255 ∷ []
    else pixel o h column row)
pixel-sixels o h [] column row single = grind (arith, nat_tests)
pixel-sixels o h (bits ∷ more) column row single =
    let rest = pixel-sixels o (Sixel bits ∷ h) more column row refl in
    rw single at rest ∙ covers_more (across h) bits (down h) column row more _ _

-- eight sixels of which only the first ones are not blank
covers_first : (from top column row : ℕ) (sixels eight : List ℕ) → length sixels ≤ 8
    → take (length sixels) eight ≡ sixels → ((k : ℕ) → length sixels ≤ k → get_or eight k 0 ≡ 0)
    → covers_eight from eight top column row ≡ covers_all from sixels top column row
covers_first from top column row sixels eight few first blank =
    grind (arith, nat_tests, get_or-take, get_or_past, blank_set, fails_third)

-- and its column
run_inside : (limit : Limit) (n bits : ℕ) (h : History) → IsInside limit (suc n) h
    → runs_of limit (Sixel bits ∷ h) ≡ run (across h) (across h + 1) (down h) bits ∷ runs_of limit h
run_inside limit n bits h inside = grind (arith, nat_tests)

-- the runs of a history with sixels of one column each
runs_of-sixels : (limit : Limit) (h : History) (sixels : List ℕ) → IsInside limit (length sixels) h
    → with_runs (across h) sixels (down h) (runs_of limit h) ≡ runs_of limit (with_sixels h sixels)
runs_of-sixels limit h [] inside = refl
runs_of-sixels limit h (bits ∷ more) inside =
    grind (arith, nat_tests, IsInside-sixel, run_inside, runs_of-sixels limit (Sixel bits ∷ h) more)

-- the pixels inside the clip then
clipped_pixel-sixels : (o : Origin) (h : History) (sixels : List ℕ) (column row : ℕ)
    → IsInside o.pixel_limit (length sixels) h
    → clipped_pixel o (with_sixels h sixels) column row
    ≡ (if covers_all (across h) sixels (down h) column row then color o h ++ 255 ∷ []
    else clipped_pixel o h column row)
clipped_pixel-sixels o h sixels column row inside =
    grind (arith, nat_tests, with_sixels, pixel-sixels)

-- sixels of one column each that lie inside the painter's image
inside_from : {C : Type 0} {canvas : Ghosts C} (o : Origin) (painter : Painter C canvas)
    (h : History) (n : ℕ)
    → Shows o painter h → painter.repeat ≡ 1 → painter.column + n ≤ painter.clipped_width
    → canvas.top painter.canvas + 6 ≤ painter.clipped_height → IsInside o.pixel_limit n h
inside_from o painter h n shows single right lower = grind (arith, nat_tests)

-- sixels name no width
named_width-sixels : (limit : Limit) (h : History) (sixels : List ℕ)
    → named_width limit (with_sixels h sixels) ≡ named_width limit h
named_width-sixels limit h [] = refl
named_width-sixels limit h (bits ∷ sixels) = named_width-sixels limit (Sixel bits ∷ h) sixels

-- the painter once eight sixels were drawn, of which the first ones are these
pub Shows-eight : {C : Type 0} {canvas : Ghosts C} (o : Origin) (h after : History)
    (old new : Painter C canvas) (sixels eight : List ℕ) → after ≡ with_sixels h sixels
    → Shows o old h → old.repeat ≡ 1 → old.column + length sixels ≤ old.clipped_width
    → canvas.top old.canvas + 6 ≤ old.clipped_height → length sixels ≤ 8
    → take (length sixels) eight ≡ sixels → ((k : ℕ) → length sixels ≤ k → get_or eight k 0 ≡ 0)
    →
    ((column row : ℕ) → canvas.shown new.canvas column row ≡
    (if covers_eight old.column eight (canvas.top old.canvas) column row then old.color else
    canvas.shown old.canvas column row))
    → ((named : ℕ) (runs : List Run) → canvas.paid old.canvas named runs → canvas.paid new.canvas
    named (with_runs old.column sixels (canvas.top old.canvas) runs))
    → canvas.top new.canvas ≡ canvas.top old.canvas
    →
    ((row : ℕ) → drawn_rows new.drawn row ≡ lowered (drawn_rows old.drawn row) row
    (most_rows eight)) → new.registers ≡ old.registers → new.color ≡ old.color
    → new.repeat ≡ old.repeat → new.column ≡ old.column + length sixels → new.width ≡ old.width
    → new.height ≡ old.height → new.raster ≡ old.raster → new.ratio ≡ old.ratio
    → new.settings ≡ old.settings → new.raster_crop ≡ old.raster_crop
    → new.pixel_limit ≡ old.pixel_limit → Shows o new after
Shows-eight {C} {canvas} o h after old new sixels eight whole shows single right lower few first
    blank drawn paid' top' lower' registers' color' repeat' column' width' height' raster' ratio'
    settings' crop' limit' =
    let inside = inside_from o old h (length sixels) shows single right lower in
    let passed = IsPassed-sixels o.pixel_limit o h sixels inside in
    let lowest = drawn_height-sixels h sixels in
    let rows = most_rows-first sixels eight first blank in
    let pixels : (column row : ℕ) → canvas.shown new.canvas column row
    ≡ clipped_pixel o (with_sixels h sixels) column row =
    λ column row.
    drawn column row
    ∙ (rw (
      covers_first old.column (canvas.top old.canvas) column row sixels eight few first blank,
      shows.column,
      shows.top,
      shows.color,
      shows.pixels column row,
    ) (sym (clipped_pixel-sixels o h sixels column row inside))) in
    let paid : canvas.paid new.canvas (named_width o.pixel_limit h)
    (runs_of o.pixel_limit (with_sixels h sixels)) =
    subst (canvas.paid new.canvas (named_width o.pixel_limit h))
    (runs_of-sixels o.pixel_limit h sixels inside)
    (rw (shows.column, shows.top) at
    (paid' (named_width o.pixel_limit h) (runs_of o.pixel_limit h) shows.paid)) in
    rw whole (grind (arith, nat_tests, named_width-sixels))
