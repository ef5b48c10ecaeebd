-- The image of a painter is no higher than its picture.
use Rattle.std.proofs.{Common.{◌≡◌, ℕ, ◌≤◌, min, arith}, lemmas.Bool.Decides.nat_tests}
use Rattle.std.specs.Prelude.{nat_lt, ◌&&◌, if◌then◌else◌}
use Rattle.sixel_canvas.specs.declared.drawing.Canvas.{Ghosts}
use Rattle.sixel_decoder.specs.declared.painter.Painter.{Painter}

-- the height with crop
pub low : {C : Type 0} {canvas : Ghosts C} (painter : Painter C canvas) (height : ℕ)
    → height
    ≡ min (if painter.raster_crop && nat_lt 0 painter.raster.1 then painter.raster.1 else
    painter.height) painter.pixel_limit.rows → height ≤ painter.clipped_height
low painter height is = grind (arith, nat_tests)
