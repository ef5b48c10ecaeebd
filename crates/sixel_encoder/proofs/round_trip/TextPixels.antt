-- What the tokens of a text show: each pixel in the register that it was last drawn in.
use Rattle.std.proofs.Common.{None, Some, List, ℕ, ◌++◌, ◌∷◌, ◌≡◌, arith, []}
use Rattle.std.specs.Prelude.{Option, slice_index_or}
use Rattle.std.proofs.lemmas.Bool.Decides.{nat_tests}
use Rattle.sixel_base.specs.{History.History, Stroke.{Origin, pixel}}
use Rattle.sixel_encoder.specs.Marks.{AreAllowed, Back, Draw, IsAllowed, Mark, Next, Pen, Pick}
use Rattle.sixel_encoder.specs.{Marks.{covered, moved, painted}, Text.Drawing, Trip.IsWritable}
use Rattle.sixel_encoder.proofs.round_trip.{PenSteps.{Follows, Follows-mark}, RowSteps.Moved-row}
use Rattle.sixel_encoder.proofs.round_trip.Tokens.{with_mark, with_marks}

-- the color of a pixel in this register of the palette, or the color that it had before
abbrev pub color_in : List (List ℕ) → List ℕ → Option ℕ → List ℕ
color_in palette before None = before
color_in palette before (Some register) = slice_index_or palette register [] ++ 255 ∷ []

module _ (palette : List (List ℕ)) (base : List ℕ) where
  -- a mark sets the pixels of its row
  pixel-mark : (drawing : Drawing) (origin : Origin) (pen : Pen) (mark : Mark) (before : Option ℕ)
      (h : History) (column line : ℕ) → IsAllowed drawing pen mark
      → Follows drawing origin.pixel_limit.first_register origin.registers palette pen h
      → pixel origin h column line ≡ color_in palette base before
      → pixel origin (with_mark mark h) column line
      ≡ color_in palette base (covered pen mark before column line)
  pixel-mark drawing origin pen (Pick register) before h column line may follows was = was
  pixel-mark drawing origin pen (Draw row) before h column line may follows was =
      grind (arith, nat_tests, Moved-row row h)
  pixel-mark drawing origin pen Back before h column line may follows was = was
  pixel-mark drawing origin pen Next before h column line may follows was = was

  -- each pixel is in the register that it was last drawn in
  pub pixel-marks : (drawing : Drawing) (origin : Origin) (pen : Pen) (marks : List Mark)
      (before : Option ℕ) (h : History) (column line : ℕ) → IsWritable drawing
      → AreAllowed drawing pen marks
      → Follows drawing origin.pixel_limit.first_register origin.registers palette pen h
      → pixel origin h column line ≡ color_in palette base before
      → pixel origin (with_marks marks h) column line
      ≡ color_in palette base (painted marks pen before column line)
  pixel-marks drawing origin pen [] before h column line is may follows was = was
  pixel-marks drawing origin pen (mark ∷ marks) before h column line is may follows was =
      pixel-marks drawing origin (moved pen mark) marks
      (covered pen mark before column line) (with_mark mark h) column line is may.1
      (Follows-mark drawing is origin.pixel_limit.first_register origin.registers palette pen
      mark h may.0 follows)
      (pixel-mark drawing origin pen mark before h column line may.0 follows was)
