-- What the parts of a painter keep, in the words of the history that was read. An invariant of this
-- library's own: the words are those of Place and Stroke of sixel_base, where DEC's manual gives
-- the rules.
use Rattle.std.specs.Prelude.{ℕ, ◌≡◌, ◌*◌, ◌≤◌, Bool, MatchResult, Result, None, is_none, []}
use Rattle.std.specs.Prelude.{◌∷◌, ◌++◌, List, max, min, ◌&&◌, if◌then◌else◌}
use Rattle.sixel_base.specs.Clip.{clipped_bits, clipped_pixel, is_pixel_inside}
use Rattle.sixel_base.specs.{DrawnHeight.{drawn_height, lowered, set_rows}, Fault.Faults}
use Rattle.sixel_base.specs.{History.History, Limits.side_limit, Payload.{first_fault, image_of}}
use Rattle.sixel_base.specs.{Picture.covers, Place.{span, across, down, width, height}}
use Rattle.sixel_base.specs.{Settings.ratio_of, Stroke.{Origin, registers, color, ratio}}
use Rattle.sixel_base.specs.declared.error.SixelError.{SixelError}
use Rattle.sixel_canvas.specs.{Drawn.{Run, run}, declared.drawing.Canvas.Ghosts}
use Rattle.sixel_decoder.specs.{Paints.{named_width, runs_of}, PictureView.picture_report}
use Rattle.sixel_decoder.specs.{PictureView.whole_image, Report.{raster_size, report_of}}
use Rattle.sixel_decoder.specs.declared.decoded_payload.DecodedPayload.{DecodedPayload}
use Rattle.sixel_decoder.specs.{declared.painter.Painter.Painter, inside.DrawnRows.drawn_rows}

-- The painter has drawn these tokens, none of which has a fault, on its canvas.
pub record Shows {C : Type 0} {canvas : Ghosts C} (origin : Origin) (painter : Painter C canvas)
    (history : History) : Type 0 where
  pub pixels : (column row : ℕ)
      → canvas.shown painter.canvas column row ≡ clipped_pixel origin history column row
  pub paid : canvas.paid painter.canvas (named_width origin.pixel_limit history)
      (runs_of origin.pixel_limit history)
  pub registers : painter.registers ≡ registers origin.registers history
  pub color : painter.color ≡ color origin history ++ 255 ∷ []
  pub repeat : painter.repeat ≡ span history
  pub column : painter.column ≡ across history
  pub top : canvas.top painter.canvas ≡ down history
  pub width : painter.width ≡ width history
  pub height : painter.height ≡ height history
  pub raster : painter.raster ≡ raster_size history
  pub drawn : drawn_rows painter.drawn (down history) ≡ drawn_height history
  pub ratio : painter.ratio ≡ ratio (ratio_of origin.settings) history
  pub settings : painter.settings ≡ origin.settings
  pub crop : painter.raster_crop ≡ origin.raster_crop
  pub limit : painter.pixel_limit ≡ origin.pixel_limit
  pub faultless : first_fault origin.pixel_limit history ≡ None

-- The newest of these tokens was drawn, or is rejected by the first fault.
abbrev pub Draws : {A C : Type 0} {canvas : Ghosts C} → Result A SixelError → Origin
    → Painter C canvas → History → Bool → Type 0
Draws result origin painter history may_want =
    MatchResult result
    (λ _. Shows origin painter history)
    (λ error. Faults error may_want (first_fault origin.pixel_limit history))

-- The second painter is the first with an image of at least `wide` columns and `high` rows, within
-- the limits.
pub record IsExtended {C : Type 0} {members : Ghosts C} (old new : Painter C members)
    (wide high : ℕ) : Type 0 where
  pub right : wide ≤ side_limit
  pub lower : high ≤ side_limit
  pub width : new.width ≡ max old.width wide
  pub height : new.height ≡ max old.height high
  pub canvas : new.canvas ≡ old.canvas
  pub registers : new.registers ≡ old.registers
  pub settings : new.settings ≡ old.settings
  pub crop : new.raster_crop ≡ old.raster_crop
  pub limit : new.pixel_limit ≡ old.pixel_limit
  pub ratio : new.ratio ≡ old.ratio
  pub color : new.color ≡ old.color
  pub repeat : new.repeat ≡ old.repeat
  pub column : new.column ≡ old.column
  pub raster : new.raster ≡ old.raster
  pub drawn : new.drawn ≡ old.drawn

-- The second painter is the first once the part of a run inside the clip was drawn, over the
-- columns from .. up to before right.
pub record IsDrawnInside {C : Type 0} {canvas : Ghosts C} (old new : Painter C canvas)
    (from right bits : ℕ) : Type 0 where
  pub pixels : (column row : ℕ) → canvas.shown new.canvas column row
      ≡ (if is_pixel_inside old.pixel_limit column row
      && covers from right (canvas.top old.canvas) bits column row then old.color
      else canvas.shown old.canvas column row)
  pub top : canvas.top new.canvas ≡ canvas.top old.canvas
  pub paid : (named : ℕ) (runs : List Run) → canvas.paid old.canvas named runs
      → canvas.paid new.canvas named
      (if is_pixel_inside old.pixel_limit from (canvas.top old.canvas)
      then run from (min right old.pixel_limit.columns) (canvas.top old.canvas)
      (clipped_bits old.pixel_limit (canvas.top old.canvas) bits) ∷ runs
      else runs)
  pub drawn : (row : ℕ) → drawn_rows new.drawn row
      ≡ lowered (drawn_rows old.drawn row) row (set_rows bits)
  pub released : canvas.released new.canvas ≡ canvas.released old.canvas
  pub registers : new.registers ≡ old.registers
  pub settings : new.settings ≡ old.settings
  pub crop : new.raster_crop ≡ old.raster_crop
  pub limit : new.pixel_limit ≡ old.pixel_limit
  pub ratio : new.ratio ≡ old.ratio
  pub color : new.color ≡ old.color
  pub repeat : new.repeat ≡ old.repeat
  pub column : new.column ≡ old.column
  pub width : new.width ≡ old.width
  pub height : new.height ≡ old.height
  pub raster : new.raster ≡ old.raster

-- The history has no fault, and this is its image, within the limit, with the registers after it
-- and its report; or it is rejected by its first fault, and by a failed allocation only if it
-- has an image.
abbrev pub Ends : Result DecodedPayload SixelError → Origin → History → ℕ → Type 0
Ends result origin history ignored =
    MatchResult result
    (λ picture. (first_fault origin.pixel_limit history ≡ None)
    × (whole_image (clipped_pixel origin history) picture ≡ image_of origin history)
    × (picture.registers ≡ registers origin.registers history)
    × (picture.width * picture.height ≤ origin.pixel_limit.pixels)
    × (picture_report picture ≡ report_of origin history ignored))
    (λ error.
    Faults error (is_none (first_fault origin.pixel_limit history))
    (first_fault origin.pixel_limit history))
