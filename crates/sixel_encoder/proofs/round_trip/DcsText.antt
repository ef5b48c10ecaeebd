-- A text as a DCS sequence: its parameters are the drawing's, and its payload is what follows them.
use Rattle.std.specs.{List.list_all, Prelude.{IsTrue, codes}}
use Rattle.std.proofs.Common.{decimal, List, arith, length-append, refl, sym, ℕ, ◌*◌, ◌++◌, ◌∷◌}
use Rattle.std.proofs.Common.{◌≡◌, ◌≤◌, []}
use Rattle.std.proofs.lemmas.{Bool.Decides.nat_tests, Fmt.decimal_digit}
use Rattle.sixel_base.specs.{Bytes.{carrying, is_parameter}, Dcs.{Reading, stage}, Fields.fields}
use Rattle.sixel_base.specs.{Header.{header_front, header_rest, settings_of}, Limits.Limit}
use Rattle.sixel_base.specs.{OneShot.{Payload, found}, Settings.{p1_of, p2_of}, Size.banded}
use Rattle.sixel_base.specs.declared.state.DecoderState.{DecoderState}
use Rattle.sixel_encoder.specs.{Marks.{IsDrawnText, marks_payload}, Text.{Drawing, parameters_text}}
use Rattle.sixel_encoder.specs.Trip.{trip, CanRead, IsOneString, IsReadAs, IsWritable}
use Rattle.sixel_encoder.specs.Trip.{drawing_settings}
use Rattle.sixel_encoder.proofs.round_trip.Digits.{AreFields, all_parameters-numbers}
use Rattle.sixel_encoder.proofs.round_trip.Digits.{fields-numbers, numbers}
use Rattle.sixel_encoder.proofs.round_trip.TextHistory.{after_terminator-carrying}
use Rattle.sixel_encoder.proofs.round_trip.TextHistory.{before_terminator-carrying, carries-payload}
use Rattle.sixel_encoder.proofs.round_trip.TextHistory.{first_terminator-carrying}
use Rattle.sixel_encoder.proofs.round_trip.Trip.{payload-sound, payload-trip}

-- ---- a header of parameters before its `q`

-- the header ends before its `q`
header_front-parameters : (t rest : List ℕ) → IsTrue (list_all is_parameter t)
    → header_front (t ++ 113 ∷ rest) ≡ t
header_front-parameters [] rest all = refl
header_front-parameters (b ∷ t) rest all = grind (arith, nat_tests, header_front-parameters t rest)

-- and the `q` follows it
header_rest-parameters : (t rest : List ℕ) → IsTrue (list_all is_parameter t)
    → header_rest (t ++ 113 ∷ rest) ≡ 113 ∷ rest
header_rest-parameters [] rest all = refl
header_rest-parameters (b ∷ t) rest all = grind (arith, nat_tests, header_rest-parameters t rest)

-- parameters are no ignored controls
carrying-parameters : (t : List ℕ) → IsTrue (list_all is_parameter t) → carrying t ≡ t
carrying-parameters [] all = refl
carrying-parameters (b ∷ t) all = grind (arith, nat_tests, carrying-parameters t)

-- ---- the parameters of a text

-- the parameters as numbers
abbrev parameters : Drawing → List ℕ
parameters drawing = numbers (p1_of drawing.aspect_ratio) (p2_of drawing.background_mode ∷ 0 ∷ [])

-- the parameters fit fields
AreFields-parameters : (drawing : Drawing) → AreFields (p2_of drawing.background_mode ∷ 0 ∷ [])
AreFields-parameters drawing = (grind (arith, nat_tests), (omega arith, tt))

-- they are written in bytes of parameters
all_parameters : (drawing : Drawing) → IsTrue (list_all is_parameter (parameters drawing))
all_parameters drawing =
    all_parameters-numbers (p1_of drawing.aspect_ratio) (p2_of drawing.background_mode ∷ 0 ∷ [])
    (grind (arith, nat_tests)) (AreFields-parameters drawing)

-- read as settings they are the drawing's
settings-numbers : (drawing : Drawing) → settings_of (parameters drawing) ≡ drawing_settings drawing
settings-numbers drawing =
    let read : fields (parameters drawing)
    ≡ p1_of drawing.aspect_ratio ∷ p2_of drawing.background_mode ∷ 0 ∷ [] =
    fields-numbers _ _ (grind (arith, nat_tests)) (AreFields-parameters drawing) in
    grind (arith, nat_tests)

-- ---- any payload with the parameters of a drawing

-- a payload and the string terminator
abbrev pub ended_payload : List ℕ → List ℕ
ended_payload payload = payload ++ 27 ∷ codes "\\"

-- the DCS sequence of a payload
abbrev pub sequence_of : Drawing → List ℕ → List ℕ
sequence_of drawing payload = parameters_text drawing ++ ended_payload payload

-- what follows the introducer
introduced_by : (drawing : Drawing) (payload : List ℕ)
    → decimal (p1_of drawing.aspect_ratio) ++ (59 ∷ []) ++ decimal (p2_of drawing.background_mode)
    ++ (59 ∷ 48 ∷ 113 ∷ []) ++ ended_payload payload
    ≡ parameters drawing ++ 113 ∷ ended_payload payload
introduced_by drawing payload = grind (arith, nat_tests, decimal_digit)

-- what is known of a header
ruleset headers = (
  introduced_by,
  header_rest-parameters,
  all_parameters,
  settings-numbers,
  header_front-parameters,
  carrying-parameters,
)

-- it has this payload, with the drawing's settings
pub found-sequence : (drawing : Drawing) (payload : List ℕ)
    → found (sequence_of drawing payload)
    ≡ Payload (drawing_settings drawing) (ended_payload payload)
found-sequence drawing payload = grind (arith, nat_tests, headers)

-- fed to a session it is read as this payload
pub stage-sequence : (drawing : Drawing) (payload : List ℕ)
    → stage (sequence_of drawing payload)
    ≡ Reading (drawing_settings drawing) (ended_payload payload)
stage-sequence drawing payload = grind (arith, nat_tests, headers)

-- ---- a text of marks

-- each text of a drawing is one DCS sequence, all of it, with no fault
pub IsOneString-drawn : (limit : Limit) (drawing : Drawing) (text : List ℕ) → IsWritable drawing
    → IsDrawnText drawing text → drawing.width * banded drawing.height ≤ limit.pixels
    → IsOneString limit text
IsOneString-drawn limit drawing text is drawn room =
    let payload : List ℕ = marks_payload drawing drawn.0 drawn.1 in
    let all = carries-payload drawing drawn.0 drawn.1 is drawn.2 in
    let sound = payload-sound drawing drawn.0 drawn.1 limit (codes "\\") is drawn.2 room in
    let read = stage-sequence drawing payload in
    let before = before_terminator-carrying in
    let one : IsOneString limit (sequence_of drawing payload) =
    grind (arith, length-append, first_terminator-carrying, after_terminator-carrying) in
    rw drawn.3 one

-- a decoder that can read it does so as the trip
pub IsReadAs-drawn : (decoder : DecoderState) (drawing : Drawing) (text : List ℕ)
    → IsWritable drawing → IsDrawnText drawing text → CanRead decoder drawing.width drawing.height
    → IsReadAs decoder text (trip decoder.raster_crop drawing)
IsReadAs-drawn decoder drawing text is drawn reads =
    rw (drawn.3, found-sequence drawing (marks_payload drawing drawn.0 drawn.1)) (
      payload-sound drawing drawn.0 drawn.1 decoder.pixel_limit (codes "\\") is drawn.2 reads.room,
      sym (payload-trip drawing drawn.0 drawn.1 decoder (codes "\\") is drawn.2 reads.shows),
    )
