-- The plain text of a drawing is a text of marks that draw it, so it is read back as they are.
use Rattle.std.specs.{List.list_all, Prelude.{IsTrue, codes}}
use Rattle.std.proofs.Common.{None, Some, List, ap, append_assoc, subst, sym, ℕ, ◌*◌, ◌++◌, ◌∙◌}
use Rattle.std.proofs.{Common.{◌∷◌, ◌≡◌, ◌≤◌, arith}, lemmas.Bool.Decides.nat_tests}
use Rattle.sixel_encoder.proofs.plain_text.Marks.{plain_marks, Draws-plain, payload-plain}
use Rattle.sixel_encoder.proofs.plain_text.Marks.{plain_definitions}
use Rattle.sixel_encoder.proofs.round_trip.DcsText.{IsOneString-drawn, IsReadAs-drawn}
use Rattle.sixel_encoder.proofs.round_trip.DcsText.{found-sequence, stage-sequence}
use Rattle.sixel_encoder.proofs.round_trip.TextHistory.{before_terminator-carrying, carries-payload}
use Rattle.sixel_encoder.proofs.round_trip.TextHistory.{first_terminator-carrying, front-carrying}
use Rattle.sixel_encoder.proofs.round_trip.Trip.{payload-sound, payload-trip}
use Rattle.sixel_base.specs.{Bytes.{before_terminator, first_terminator, front}, Dcs.Reading}
use Rattle.sixel_base.specs.{Dcs.stage, Decoder.origin_of, Limits.Limit, OneShot.{Payload, found}}
use Rattle.sixel_base.specs.{Payload.{payload_fault, payload_image}, Size.banded}
use Rattle.sixel_base.specs.declared.state.DecoderState.{DecoderState}
use Rattle.sixel_base.proofs.Histories.{carries}
use Rattle.sixel_encoder.specs.{Marks.IsDrawnText, Text.{Drawing, parameters_text, text_of}}
use Rattle.sixel_encoder.specs.Trip.{CanRead, CanShow, IsOneString, IsReadAs, IsWritable}
use Rattle.sixel_encoder.specs.Trip.{drawing_settings, payload_text, trip}

-- the parts of a text in one order of joining
payload-joined : (p r c b e : List ℕ) → p ++ r ++ c ++ b ++ e ≡ p ++ ((r ++ c ++ b) ++ e)
payload-joined p r c b e = simp append_assoc

-- the payload stands between the parameters and the terminator
pub text_of-parts : (drawing : Drawing)
    → text_of drawing ≡ parameters_text drawing ++ (payload_text drawing ++ 27 ∷ codes "\\")
text_of-parts drawing = grind (arith, nat_tests, payload-joined)

-- the plain text is that of its marks
pub IsDrawnText-plain : (drawing : Drawing) → IsWritable drawing
    → IsDrawnText drawing (text_of drawing)
IsDrawnText-plain drawing is =
    let parts = text_of-parts drawing in
    let same = payload-plain drawing in
    let draws = Draws-plain drawing is in
    (plain_definitions drawing, plain_marks drawing, draws, grind (arith, nat_tests))

-- ---- the payload

-- all bytes of the payload carry meaning
carries-plain : (drawing : Drawing) → IsWritable drawing
    → IsTrue (list_all carries (payload_text drawing))
carries-plain drawing is =
    subst (λ (bytes : List ℕ). IsTrue (list_all carries bytes))
    (payload-plain drawing) (carries-payload drawing (plain_definitions drawing)
    (plain_marks drawing) is (Draws-plain drawing is))

module _ (drawing : Drawing) (rest : List ℕ) (is : IsWritable drawing) where
  -- all of the payload is its own, up to the terminator
  pub payload-own : before_terminator (payload_text drawing ++ 27 ∷ rest) ≡ payload_text drawing
  payload-own = grind (arith, nat_tests, before_terminator-carrying, carries-plain)

  -- so it is its own front
  pub payload-front : front (payload_text drawing ++ 27 ∷ rest) ≡ payload_text drawing
  payload-front = grind (arith, nat_tests, front-carrying, carries-plain)

  -- it ends at the terminator
  pub payload-ended : first_terminator (payload_text drawing ++ 27 ∷ rest) ≡ Some 27
  payload-ended = grind (arith, nat_tests, first_terminator-carrying, carries-plain)

  -- the payload is read as the trip
  pub plain-trip : (decoder : DecoderState) → CanShow decoder drawing.width drawing.height
      → payload_image (origin_of decoder (drawing_settings drawing))
      (payload_text drawing ++ 27 ∷ rest) ≡ trip decoder.raster_crop drawing
  plain-trip decoder can =
      grind (arith, nat_tests, payload-plain drawing, payload-trip, Draws-plain)

  -- and has no fault within a limit that has room for it in whole bands
  pub plain-sound : (limit : Limit) → drawing.width * banded drawing.height ≤ limit.pixels
      → payload_fault limit (payload_text drawing ++ 27 ∷ rest) ≡ None
  plain-sound limit room =
      ap (λ payload. payload_fault limit (payload ++ 27 ∷ rest)) (sym (payload-plain drawing))
      ∙ payload-sound drawing (plain_definitions drawing) (plain_marks drawing) limit rest is
      (Draws-plain drawing is) room

-- ---- the whole text

-- the text has one payload, with the drawing's settings
pub found-text : (drawing : Drawing)
    → found (text_of drawing)
    ≡ Payload (drawing_settings drawing) (payload_text drawing ++ 27 ∷ codes "\\")
found-text drawing =
    ap found (text_of-parts drawing) ∙ found-sequence drawing (payload_text drawing)

-- fed to a session it is read as this payload
pub stage-text : (drawing : Drawing)
    → stage (text_of drawing)
    ≡ Reading (drawing_settings drawing) (payload_text drawing ++ 27 ∷ codes "\\")
stage-text drawing =
    ap stage (text_of-parts drawing) ∙ stage-sequence drawing (payload_text drawing)

-- the text is one DCS sequence, all of it, with no fault
pub IsOneString-text : (limit : Limit) (drawing : Drawing) → IsWritable drawing
    → drawing.width * banded drawing.height ≤ limit.pixels → IsOneString limit (text_of drawing)
IsOneString-text limit drawing is room =
    IsOneString-drawn limit drawing (text_of drawing) is (IsDrawnText-plain drawing is) room

-- a decoder that can read it does so as the trip
pub text-trip : (decoder : DecoderState) (drawing : Drawing) → IsWritable drawing
    → CanRead decoder drawing.width drawing.height
    → IsReadAs decoder (text_of drawing) (trip decoder.raster_crop drawing)
text-trip decoder drawing is reads =
    IsReadAs-drawn decoder drawing (text_of drawing) is (IsDrawnText-plain drawing is) reads
