-- The headline: what outcomes are is decided by the steps, whatever their cuts; and what the text
-- of an image is.
use Rattle.std.proofs.Common.{◌≡◌, ◌<◌, ℕ, List, [], ◌∷◌, refl, sym, ap, ◌∙◌, arith, subst}
use Rattle.std.specs.Prelude.{All, None, Option, Bool, IfErr, IfOk, MatchOption, OnOk, Result, Ok}
use Rattle.std.specs.{Prelude.Err, Prelude.Some, List.AllZip}
use Rattle.std.proofs.{lemmas.Bool.Decides.nat_tests, lemmas.List.Elements.All-tail}
use Rattle.sixel_base.proofs.Histories.{history_unique, some_history}
use Rattle.sixel_base.specs.{Bytes.front, Decoder.new_decoder, Decoder.IsSetAs, Limits.whole_limit}
use Rattle.sixel_base.specs.{Payload.Image, declared.error.SixelError.SixelError}
use Rattle.sixel_base.specs.{declared.error.SixelError.TheVariants.OutOfMemory}
use Rattle.sixel_base.specs.{declared.state.DecoderState.DecoderState, Fault.Fault, Fault.Faults}
use Rattle.sixel_base.specs.{Fault.IsFault, OneShot.found}
use Rattle.sixel_palette.proofs.{traversal.Order.bound_from_order, traversal.Law.palette_same}
use Rattle.sixel_palette.specs.Palette.{IsNearest, IsShown}
use Rattle.sixel_encoder.proofs.drawings.SameDrawing.{IsShown-other, drawing_same}
use Rattle.sixel_encoder.specs.Encoding.{IsDrawing, IsText, image_fault, shown_image}
use Rattle.sixel_encoder.specs.Text.{Drawing, row_of, text_of}
use Rattle.sixel_encoder.proofs.plain_text.Text.{IsOneString-text, text-trip}
use Rattle.sixel_encoder.proofs.band_rows.ShortestRows.{shortest, spells}
use Rattle.sixel_encoder.proofs.round_trip.TripLimits.{CanRead-drawn, CanRead-new, IsWritable-drawn}
use Rattle.sixel_base.specs.OneShot.{AreFoundRegisters, Found, IsFoundImage, NoPayload, Payload}
use Rattle.icy_sixel.specs.{Headline.Headline, Headline.IsFaithful, declared.script.End.End}
use Rattle.icy_sixel.specs.{declared.script.Step.Step, declared.script.Outcome.Outcome}
use Rattle.icy_sixel.proofs.SomeDrawing.{drawing-some}
use Rattle.icy_sixel.specs.Script.{AreOutcomes, IsDecoding, IsOutcome, IsSessionOutcome, Meaning}
use Rattle.icy_sixel.specs.Script.{IsRecut, IsSameOutcome, frame_meaning, string_meaning}
use Rattle.icy_sixel.specs.declared.script.End.TheVariants.{Abort, Finish}
use Rattle.icy_sixel.specs.declared.script.Outcome.TheVariants.{Decoded, Failed, Finished}
use Rattle.icy_sixel.specs.declared.script.Step.TheVariants as steps

-- ---- the text of an image

-- a color has one nearest entry
nearest-one : (entries : List (List ℕ)) (c : List ℕ) (i j : ℕ) → IsNearest entries c i
    → IsNearest entries c j → i ≡ j
nearest-one entries c i j is also = grind (arith, nat_tests)

-- images that show the same have one drawing
drawing-one : (image other : Image) (k : ℕ) (drawing another : Drawing)
    → All (λ byte. byte < 256) image.pixels → shown_image image ≡ shown_image other
    → IsDrawing image k drawing → IsDrawing other k another → drawing ≡ another
drawing-one image other k drawing another bytes same is also =
    drawing_same image other k drawing another nearest-one same is also
    (palette_same image.pixels other.pixels k drawing.colors another.colors bytes
    (IsShown-other image other same) (IsShown-other other image (sym same)) is.palette also.palette)

headline-text : (image : Image) (k : ℕ) (text : List ℕ) → image_fault image ≡ None
    → All (λ byte. byte < 256) image.pixels → IsText image k text → IsFaithful image k text
headline-text image k text sound bytes is =
    let drawing : Drawing = is.0 in
    let writable = IsWritable-drawn image k drawing is.1 sound bytes in
    let can = CanRead-drawn image k drawing is.1 new_decoder (CanRead-new image sound) in
    record {
      drawing = drawing;
      drawn = is.1;
      written = is.2;
      whole = rw is.2 (IsOneString-text whole_limit drawing writable can.room);
      read_back = rw is.2 (text-trip new_decoder drawing writable can);
      shortest = λ band entry. (spells (row_of drawing band entry), shortest _);
      bound = λ c shown.
          bound_from_order (IsShown image.pixels) drawing.colors c is.1.palette.order shown;
      hidden = λ other others same also.
          let one = drawing-one image other k drawing also.0 bytes (sym same) is.1 also.1 in
          also.2 ∙ (sym (ap text_of one) ∙ sym is.2);
    }

-- so is that of an image that was encoded
pub faithful-written : {S : Type 0} (bytes : S → List ℕ) (result : Result S SixelError)
    (image : Image) (k : ℕ)
    → MatchOption (image_fault image) (IfErr result (λ e. e ≡ OutOfMemory)) (λ f. result ≡ Err f)
    → OnOk result (All (λ byte. byte < 256) image.pixels)
    → IfOk result (λ text. IsText image k (bytes text))
    → IfOk result (λ text. IsFaithful image k (bytes text))
faithful-written bytes (Ok text) image k refused fits is =
    headline-text image k (bytes text) (grind (arith, nat_tests)) fits is
faithful-written bytes (Err e) image k refused fits is = tt

-- each image within the limits has one
headline-some : (image : Image) (k : ℕ) → image_fault image ≡ None
    → All (λ byte. byte < 256) image.pixels → (text : List ℕ) × IsFaithful image k text
headline-some image k sound bytes =
    let some = drawing-some image k bytes in
    (text_of some.0, headline-text image k _ sound bytes (some.0, some.1, refl))

-- ---- outcomes are decided

-- one payload has one image and leaves one list of registers
image-one : (before : DecoderState) (payload : Found) (image other : Image)
    → IsFoundImage before payload image → IsFoundImage before payload other → other ≡ image
image-one before (Payload settings bytes) image other is also = also ∙ sym is
image-one before (NoPayload fault) image other is also = absurd is

registers-one : (before : DecoderState) (payload : Found) (a b : List (List ℕ))
    → AreFoundRegisters before payload a → AreFoundRegisters before payload b → b ≡ a
registers-one before (Payload settings bytes) a b is also = also ∙ sym is
registers-one before (NoPayload fault) a b is also = absurd is

-- so the decoder after it is one
decoder-one : (before : DecoderState) (payload : Found) (a b : DecoderState)
    → AreFoundRegisters before payload a.registers → AreFoundRegisters before payload b.registers
    → IsSetAs before a → IsSetAs before b → b ≡ a
decoder-one before payload a b is also set too =
    let same = registers-one before payload a.registers b.registers is also in
    λ i. record {
      registers = same i;
      raster_crop = (too.0 ∙ sym set.0) i;
      pixel_limit = (too.1 ∙ sym set.1) i;
    }

-- no allocation failed
abbrev IsSupplied : Outcome → Type 0
IsSupplied outcome = outcome ≡ Failed OutOfMemory → ⊥

-- an error that is no want of memory is the fault that was found
fault-found : (error : SixelError) (wants : Bool) (found : Option Fault) → IsSupplied (Failed error)
    → Faults error wants found
    → (fault : Fault) × (found ≡ Some fault) × IsFault error fault
fault-found OutOfMemory wants found supplied faults = absurd (supplied refl)
fault-found error wants None supplied faults = absurd faults
fault-found error wants (Some fault) supplied faults = (fault, refl, faults)

-- so there is none where nothing was found
sound-fault : (error : SixelError) (wants : Bool) (found : Option Fault) → found ≡ None
    → IsSupplied (Failed error) → Faults error wants found → ⊥
sound-fault error wants found sound supplied faults =
    let one = fault-found error wants found supplied faults in
    cc

-- and two errors name the same
failed-one : (error also : SixelError) (wants : Bool) (found : Option Fault)
    → IsSupplied (Failed error) → IsSupplied (Failed also)
    → Faults error wants found → Faults also wants found
    → IsSameOutcome (Failed error) (Failed also)
failed-one error also wants found supplied and faults too =
    let one = fault-found error wants found supplied faults in
    let other = fault-found also wants found and too in
    let same : other.0 ≡ one.0 = cc in
    (also, refl, one.0, one.2, subst (λ (fault : Fault). IsFault also fault) same other.2)

session-one : (before a b : DecoderState) (bytes : Meaning) (ending : End) (x y : Outcome)
    → IsSupplied x → IsSupplied y → IsSessionOutcome before bytes ending x a
    → IsSessionOutcome before bytes ending y b → IsSameOutcome x y × (b ≡ a)
session-one before a b bytes Abort (Failed e) (Failed f) supplied and is also =
    (failed-one e f bytes.grows bytes.fed_fault supplied and is.0 also.0, also.1 ∙ sym is.1)
session-one before a b bytes Finish (Finished m s i) (Finished n t j) supplied and is also = (
  (j, cc, image-one before bytes.drawn _ _ is.3 also.3),
  decoder-one before bytes.drawn a b is.4 also.4 is.5 also.5,
)
session-one before a b bytes Finish (Failed e) (Failed f) supplied and is also =
    (failed-one e f _ bytes.end_fault supplied and is.0 also.0, also.1 ∙ sym is.1)
session-one before a b bytes ending x y supplied and is also =
    grind (arith, nat_tests, sound-fault)

decoding-one : (before a b : DecoderState) (payload : Found) (x y : Outcome)
    → IsSupplied x → IsSupplied y → IsDecoding before payload x a → IsDecoding before payload y b
    → IsSameOutcome x y × (b ≡ a)
decoding-one before a b payload (Decoded i) (Decoded j) supplied and is also = (
  (j, refl, image-one before payload _ _ is.1 also.1),
  decoder-one before payload a b is.2 also.2 is.3 also.3,
)
decoding-one before a b payload (Failed e) (Failed f) supplied and is also =
    (failed-one e f _ _ supplied and is.0 also.0, also.1 ∙ sym is.1)
decoding-one before a b payload x y supplied and is also = grind (arith, nat_tests, sound-fault)

step-one : (before a b : DecoderState) (step : Step) (x y : Outcome) → IsSupplied x → IsSupplied y
    → IsOutcome before step x a → IsOutcome before step y b → IsSameOutcome x y × (b ≡ a)
step-one before a b (steps.Frame settings bytes cuts ending) x y supplied and is also =
    session-one before a b (frame_meaning before.pixel_limit settings bytes.now) ending x y
    supplied and is also
step-one before a b (steps.Dcs bytes cuts ending) x y supplied and is also =
    session-one before a b (string_meaning before.pixel_limit bytes.now) ending x y
    supplied and is also
step-one before a b (steps.Decode bytes) x y supplied and is also =
    decoding-one before a b (found bytes.now) x y supplied and is also
step-one before a b (steps.DecodeFromDcs bytes settings) x y supplied and is also =
    decoding-one before a b (Payload settings bytes.now) x y supplied and is also
step-one before a b step x y supplied and is also = grind (arith, nat_tests)

-- the outcomes of the same steps are the same, and so is the decoder after them
headline-one : (before a b : DecoderState) (steps : List Step) (xs ys : List Outcome)
    → AreOutcomes before steps xs a → AreOutcomes before steps ys b
    → All IsSupplied xs → All IsSupplied ys → AllZip IsSameOutcome xs ys × (b ≡ a)
headline-one before a b [] [] [] are also supplied and = (tt, also ∙ sym are)
headline-one before a b (s ∷ ss) (x ∷ xs) (y ∷ ys) are also supplied and =
    let one =
    step-one before are.0 also.0 s x y (supplied 0 x (omega arith)) (and 0 y (omega arith)) are.1
    also.1 in
    let rest =
    headline-one are.0 a b ss xs ys are.2
    (subst (λ (between : DecoderState). AreOutcomes between ss ys b) one.1 also.2)
    (All-tail IsSupplied x xs supplied) (All-tail IsSupplied y ys and) in
    ((one.0, rest.0), rest.1)
headline-one before a b [] [] (y ∷ ys) are also supplied and = absurd also
headline-one before a b (s ∷ ss) (x ∷ xs) [] are also supplied and = absurd also
headline-one before a b steps xs ys are also supplied and = absurd are

-- ---- cuts

cut-step : (before after : DecoderState) (step other : Step) (outcome : Outcome)
    → IsRecut step other → IsOutcome before step outcome after
    → IsOutcome before other outcome after
cut-step before after (steps.Frame settings bytes cuts ending)
    (steps.Frame others copy more other) outcome recut is =
    rw (recut.0, recut.1, recut.2) is
cut-step before after (steps.Dcs bytes cuts ending) (steps.Dcs copy more other) outcome recut is =
    rw (recut.0, recut.1) is
cut-step before after step other outcome recut is =
    subst (λ (s : Step). IsOutcome before s outcome after) (sym recut) is

-- steps that are cut in another way have the same outcomes
headline-cut : (before after : DecoderState) (steps others : List Step)
    (outcomes : List Outcome) → AllZip IsRecut steps others
    → AreOutcomes before steps outcomes after
    → AreOutcomes before others outcomes after
headline-cut before after [] [] outcomes recut are = are
headline-cut before after (s ∷ ss) (t ∷ ts) (o ∷ os) recut are = (
  are.0,
  cut-step before are.0 s t o recut.0 are.1,
  headline-cut are.0 after ss ts os recut.1 are.2,
)
headline-cut before after (s ∷ ss) (t ∷ ts) [] recut are = absurd are
headline-cut before after steps others outcomes recut are = absurd recut

pub headline : Headline
headline = record {
  tokens = some_history;
  no_others = λ bytes. history_unique (front bytes);
  cut = headline-cut;
  one = headline-one;
  text = headline-some;
}
