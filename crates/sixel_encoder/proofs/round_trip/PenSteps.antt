-- What marks do to the place, the colors and the sizes: the history is where the pen is.
use Rattle.std.proofs.Common.{Some, List, arith, false, refl, ℕ, ◌*◌, ◌<◌, ◌∷◌, ◌≡◌, []}
use Rattle.std.proofs.lemmas.Bool.Decides.{nat_tests}
use Rattle.sixel_encoder.proofs.{band_rows.ShortestRows.spells, round_trip.Digits.fields-numbers}
use Rattle.sixel_encoder.proofs.{round_trip.Digits.numbers, round_trip.Extent.Fits}
use Rattle.sixel_encoder.proofs.round_trip.Extent.{Fits-run_tokens, IsWithinLimits}
use Rattle.sixel_encoder.proofs.{round_trip.RowSteps.Moved-row, round_trip.TextHistory.AreSound-row}
use Rattle.sixel_encoder.proofs.round_trip.Tokens.{with_mark, with_marks}
use Rattle.sixel_base.specs.{History.{Color, History}, Limits.whole_limit, Place.{across, down}}
use Rattle.sixel_base.specs.{Place.span, Stroke.{is_definition, named_by, ratio, registers}}
use Rattle.sixel_base.specs.{Stroke.selected, declared.settings.PixelAspectRatio.PixelAspectRatio}
use Rattle.sixel_encoder.specs.Marks.{AreAllowed, Back, Draw, IsAllowed, Mark, Next, Pen, Pick}
use Rattle.sixel_encoder.specs.{Marks.{moved, moved_by}, RunTokens.row_tokens, Text.Drawing}
use Rattle.sixel_encoder.specs.{Text.bands, Trip.IsWritable}

-- ---- a color introducer of one number

-- it selects its register
selects : (entry : ℕ) → entry < 256 → named_by (numbers entry []) ≡ entry
selects entry h = grind (arith, nat_tests, numbers, fields-numbers entry [])

-- one number defines no color
defines_none : (entry : ℕ) → entry < 256 → is_definition (numbers entry []) ≡ false
defines_none entry h = grind (arith, nat_tests, fields-numbers entry [] (omega arith) tt)

-- so it keeps the registers
keeps_registers : (entry : ℕ) (h : History) (start : List (List ℕ)) → entry < 256
    → registers start (Color (numbers entry []) ∷ h) ≡ registers start h
keeps_registers entry h start small = rw (defines_none entry small) refl

-- ---- marks

-- a history is where the pen is, with this first register and palette, within the drawing's sizes
pub record Follows (drawing : Drawing) (first : ℕ) (start palette : List (List ℕ)) (pen : Pen)
    (history : History) : Type 0 where
  pub single : span history ≡ 1
  pub place : across history ≡ pen.column
  pub level : down history ≡ 6 * pen.band
  pub named : (register : ℕ) → pen.register ≡ Some register → selected first history ≡ register
  pub defined : registers start history ≡ palette
  pub shape : (other : PixelAspectRatio) → ratio other history ≡ drawing.aspect_ratio
  pub fits : Fits whole_limit drawing.width (6 * bands drawing.height) history

module _ (drawing : Drawing) (is : IsWritable drawing) where
  -- a drawing's sizes are within the limits
  IsWithinLimits-drawing : IsWithinLimits whole_limit drawing.width (6 * bands drawing.height)
  IsWithinLimits-drawing = record { wide = is.wide; high = is.high; area = is.area }

  -- a history follows the pen over a mark
  pub Follows-mark : (first : ℕ) (start palette : List (List ℕ)) (pen : Pen) (mark : Mark)
      (h : History) → IsAllowed drawing pen mark → Follows drawing first start palette pen h
      → Follows drawing first start palette (moved pen mark) (with_mark mark h)
  Follows-mark first start palette pen (Pick register) h may follows =
      grind (arith, nat_tests, selects, keeps_registers)
  Follows-mark first start palette pen (Draw row) h may follows =
      let fits =
      Fits-run_tokens whole_limit drawing.width (6 * bands drawing.height) (row_tokens row) h in
      let sound = AreSound-row row in
      grind (arith, nat_tests, Moved-row row h, spells row, IsWithinLimits-drawing)
  Follows-mark first start palette pen Back h may follows = grind (arith, nat_tests)
  Follows-mark first start palette pen Next h may follows = grind (arith, nat_tests)

  -- and over all marks
  pub Follows-marks : (first : ℕ) (start palette : List (List ℕ)) (pen : Pen) (marks : List Mark)
      (h : History) → AreAllowed drawing pen marks → Follows drawing first start palette pen h
      → Follows drawing first start palette (moved_by marks pen) (with_marks marks h)
  Follows-marks first start palette pen [] h may follows = follows
  Follows-marks first start palette pen (mark ∷ marks) h may follows =
      Follows-marks first start palette (moved pen mark) marks (with_mark mark h) may.1
      (Follows-mark first start palette pen mark h may.0 follows)
