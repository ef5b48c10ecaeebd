-- How high the tokens of a text make the picture: to the end of the last band that is used.
use Rattle.std.proofs.Common.{None, ◌/◌, Bool, List, ap, arith, cond, length, max, refl, subst, suc}
use Rattle.std.proofs.Common.{true, zero, ℕ, ◌*◌, ◌+◌, ◌<◌, ◌∷◌, ◌≡◌, ◌≤◌, []}
use Rattle.std.specs.Prelude.{Option, is_some}
use Rattle.std.proofs.lemmas.{Bool.cases_eq, Bool.Decides.nat_tests, Grind.common_steps}
use Rattle.sixel_base.specs.{History.History, Payload.cropped_height, Place.{height, raster_height}}
use Rattle.sixel_base.specs.Stroke.{registers}
use Rattle.sixel_encoder.specs.Marks.{AreAllowed, Back, Definition, Draw, Draws, IsAllowed, Mark}
use Rattle.sixel_encoder.specs.Marks.{Next, Pen, Pick, covered, first_pen, moved, painted}
use Rattle.sixel_encoder.specs.{RunTokens.{RunToken, row_tokens, sixels}, Text.{Drawing, bands}}
use Rattle.sixel_encoder.specs.Trip.{IsWritable, bands_up_to, is_used, trip_height}
use Rattle.sixel_encoder.proofs.round_trip.{Extent.height-run_tokens, UsedBands.used-pixel}
use Rattle.sixel_encoder.proofs.round_trip.PenSteps.{Follows, Follows-mark}
use Rattle.sixel_encoder.proofs.round_trip.{TextHistory.AreSound-row, TextPalette.Follows-palette}
use Rattle.sixel_encoder.proofs.round_trip.TextPalette.{height-palette, raster_height-palette}
use Rattle.sixel_encoder.proofs.round_trip.Tokens.{tokens, with_mark, with_marks, with_palette}
use Rattle.sixel_encoder.proofs.round_trip.Tokens.{with_run_tokens, with_run_token}
use Rattle.sixel_encoder.proofs.band_rows.{EntryRows.is_lit-past, ShortestRows.spells}

-- ---- the last band that passes a test

-- of no band
pub bands_up_to-none : (test : ℕ → Bool) → bands_up_to test 0 ≡ 0
unfolding bands_up_to
bands_up_to-none test = refl

-- of one band more
pub bands_up_to-more : (test : ℕ → Bool) (n : ℕ)
    → bands_up_to test (n + 1) ≡ cond (test n) (n + 1) (bands_up_to test n)
unfolding bands_up_to
bands_up_to-more test n = let e : n + 1 ≡ suc n = omega arith in ap (bands_up_to test) e

-- of n bands there are at most n
pub bands_up_to-le : (test : ℕ → Bool) (n : ℕ) → bands_up_to test n ≤ n
unfolding bands_up_to
bands_up_to-le test zero = omega arith
bands_up_to-le test (suc n) = grind (arith, nat_tests, bands_up_to-le test n)

-- a band that passes the test is among those up to the last that does
pub bands_up_to-passed : (test : ℕ → Bool) (n band : ℕ) → band < n → test band ≡ true
    → band + 1 ≤ bands_up_to test n
bands_up_to-passed test zero band l passed = absurd (omega arith)
bands_up_to-passed test (suc n) band l passed =
    let e : n + 1 ≡ suc n = omega arith in
    subst (λ (m : ℕ). band + 1 ≤ bands_up_to test m) e
    (grind (arith, nat_tests, cases_eq, bands_up_to-more, bands_up_to-passed test n band))

-- the last band that passes the test, if there is one
bands_up_to-last : (test : ℕ → Bool) (n : ℕ) → 0 < bands_up_to test n
    → (band : ℕ) × (bands_up_to test n ≡ band + 1) × (test band ≡ true)
bands_up_to-last test zero some = absurd (omega (arith, bands_up_to-none test))
bands_up_to-last test (suc n) some =
    let e : n + 1 ≡ suc n = omega arith in
    let more = rw e at (bands_up_to-more test n) in
    grind (arith, nat_tests, bands_up_to-last test n)

-- ---- one mark

-- a row of no sixel changes nothing
empty-row : (row : List ℕ) (h : History) → length row ≡ 0
    → height (with_run_tokens (row_tokens row) h) ≡ height h
unfolding sixels
empty-row x0 h none = grind (arith, common_steps)

-- how high the trip is without crop
abbrev uncropped_height : Drawing → ℕ
uncropped_height drawing =
    max drawing.height (6 * bands_up_to (is_used drawing) (bands drawing.height))

-- The picture is at least as high as the drawing, and no higher than the trip. If the pixel is
-- drawn in a register, the picture reaches to the end of its band.
record Reaches (drawing : Drawing) (line : ℕ) (place : Option ℕ) (h : History) : Type 0 where
  least : drawing.height ≤ height h
  greatest : height h ≤ uncropped_height drawing
  reached : is_some place ≡ true → 6 * (line / 6) + 6 ≤ height h

-- a mark keeps that
Reaches-mark : (drawing : Drawing) (start palette : List (List ℕ)) (pen : Pen) (mark : Mark)
    (before : Option ℕ) (h : History) (column line : ℕ) → IsAllowed drawing pen mark
    → Follows drawing 0 start palette pen h → Reaches drawing line before h
    → Reaches drawing line (covered pen mark before column line) (with_mark mark h)
Reaches-mark drawing start palette pen (Pick register) before h column line may follows was =
    record { least = was.least; greatest = was.greatest; reached = was.reached }
Reaches-mark drawing start palette pen (Draw row) before h column line may follows was =
    let new = height (with_run_tokens (row_tokens row) h) in
    let now : (height h ≤ new) × (new ≤ max (height h) (6 * pen.band + 6))
    × (0 < length row → 6 * pen.band + 6 ≤ new) =
    grind (arith, nat_tests, height-run_tokens, AreSound-row, spells, empty-row) in
    let passed =
    bands_up_to-passed (is_used drawing) (bands drawing.height) pen.band may.lower may.used in
    record {
      least = omega (arith, was.least, now.0);
      greatest = omega (arith, was.greatest, now.1, passed);
      reached = grind (arith, nat_tests, is_lit-past);
    }
Reaches-mark drawing start palette pen Back before h column line may follows was =
    record { least = was.least; greatest = was.greatest; reached = was.reached }
Reaches-mark drawing start palette pen Next before h column line may follows was =
    record { least = was.least; greatest = was.greatest; reached = was.reached }

-- ---- all marks

-- marks keep it too
Reaches-marks : (drawing : Drawing) (start palette : List (List ℕ)) (pen : Pen) (marks : List Mark)
    (before : Option ℕ) (h : History) (column line : ℕ) → IsWritable drawing
    → AreAllowed drawing pen marks → Follows drawing 0 start palette pen h
    → Reaches drawing line before h
    → Reaches drawing line (painted marks pen before column line) (with_marks marks h)
Reaches-marks drawing start palette pen [] before h column line is may follows was = was
Reaches-marks drawing start palette pen (mark ∷ marks) before h column line is may follows was =
    Reaches-marks drawing start palette (moved pen mark) marks (covered pen mark before column line)
    (with_mark mark h) column line is may.1
    (Follows-mark drawing is 0 start palette pen mark h may.0 follows)
    (Reaches-mark drawing start palette pen mark before h column line may.0 follows was)

-- the marks make the picture as high as the trip
height-tokens : (drawing : Drawing) (definitions : List Definition) (marks : List Mark)
    → IsWritable drawing → Draws drawing definitions marks
    → height (tokens drawing definitions marks) ≡ uncropped_height drawing
height-tokens drawing definitions marks is draws =
    let start_height = height-palette drawing definitions is in
    let reaches = λ (column line : ℕ).
    Reaches-marks drawing [] (registers [] (with_palette drawing definitions)) first_pen marks
    None (with_palette drawing definitions) column line is draws.allowed
    (Follows-palette drawing 0 [] definitions is) (grind (arith, nat_tests)) in
    grind (arith, nat_tests, used-pixel, bands_up_to-last, reaches)

-- ---- the height that raster attributes name

-- no run-length token names a height
raster_height-run_tokens : (tokens : List RunToken) (h : History)
    → raster_height (with_run_tokens tokens h) ≡ raster_height h
raster_height-run_tokens [] h = refl
raster_height-run_tokens (token ∷ tokens) h =
    grind (arith, nat_tests, raster_height-run_tokens tokens (with_run_token token h))

-- nor does a mark
raster_height-marks : (marks : List Mark) (h : History)
    → raster_height (with_marks marks h) ≡ raster_height h
raster_height-marks [] h = refl
raster_height-marks (mark ∷ marks) h =
    grind (arith, nat_tests, raster_height-marks marks (with_mark mark h), raster_height-run_tokens)

-- the image of the tokens is as high as the trip
pub cropped_height-tokens :
    (crop : Bool) (drawing : Drawing) (definitions : List Definition) (marks : List Mark)
    → IsWritable drawing → Draws drawing definitions marks
    → cropped_height crop (tokens drawing definitions marks) ≡ trip_height crop drawing
cropped_height-tokens crop drawing definitions marks is draws =
    grind (arith, nat_tests, raster_height-palette, raster_height-marks, height-tokens)
