-- The output for DCS sequences, image by image.
use Rattle.std.proofs.Common.{◌≡◌, ◌<◌, ◌++◌, ◌∷◌, ◌∙◌, List, None, Option, [], append-nil, ap}
use Rattle.std.proofs.Common.{append_assoc, drop, length, length-drop, refl, Err, subst, sym, arith}
use Rattle.std.proofs.{Common.{true, ℕ}, KnownBytes.{Appends-nil, Appends-trans}}
use Rattle.std.proofs.lemmas.Bool.Decides.{nat_tests}
use Rattle.std.specs.Io.KnownBytes.{Appends}
use Rattle.sixel_base.specs.declared.error.SixelError.{SixelError}
use Rattle.sixel_base.specs.{declared.error.SixelError.TheVariants.OutOfMemory, Payload.Image}
use Rattle.sixel_base.specs.{Dcs.{dcs_count, dcs_status}, declared.state.DecoderState.DecoderState}
use Rattle.sixel_base.specs.declared.status.SixelDcsFeedStatus.{SixelDcsFeedStatus}
use Rattle.sixel_base.specs.declared.status.SixelDcsFeedStatus.TheVariants.{NeedMoreData, Complete}
use Rattle.sixel_base.specs.declared.status.SixelDcsFeedStatus.TheVariants.{Cancelled, Interrupted}
use Rattle.sixel.specs.{Ending.{Ending, Done, Refused, Unreadable}, Form.image_form}
use Rattle.sixel.specs.Sequences.{HasEnded, IsSequencesOutput, Over, Broken, Followed, rest_of}
use Rattle.sixel.specs.{Sequences.{rest_by, sequence_fault}, WorkOutput.{IsImageOutput, Begins}}
use Rattle.sixel.specs.{WorkOutput.{Serves, Writes}, declared.fault.Fault.Fault}
use Rattle.sixel.specs.declared.fault.Fault.TheVariants.{Sixel, Input, Output}
use Rattle.sixel.proofs.ByteCounts.{complete_counts}
use Rattle.sixel_base.specs.Fault as data_fault

-- The images before the rest were written, and an output for the rest completes that for all.
pub record Leads (start : DecoderState) (bytes : List ℕ) (now : DecoderState) (rest : List ℕ)
    (a b : Option (List ℕ)) : Type 0 where
  pub text : List ℕ
  pub written : Appends a b text
  pub completes : (more : List ℕ) (ending : Ending) → (rest ≡ [] → ending ≡ Done)
      → IsSequencesOutput now rest more ending
      → IsSequencesOutput start bytes (text ++ more) ending

-- at first no image is written
pub leads_first : (start now : DecoderState) (bytes : List ℕ) (a : Option (List ℕ)) → now ≡ start
    → Leads start bytes now bytes a a
leads_first start now bytes a same = record {
  text = [];
  written = Appends-nil a;
  completes = λ more ending ends is.
      subst (λ (d : DecoderState). IsSequencesOutput d bytes more ending) same is;
}

-- once no byte is left, the output is whole
pub leads_last : (start : DecoderState) (bytes : List ℕ) (now : DecoderState) (rest : List ℕ)
    (a b : Option (List ℕ)) → rest ≡ [] → Leads start bytes now rest a b
    → Writes (λ text. IsSequencesOutput start bytes text Done) a b
leads_last start bytes now rest a b none l =
    let over =
    subst (λ (r : List ℕ). IsSequencesOutput now r [] Done) (sym none) (Over now) in (
      l.text,
      subst (λ (t : List ℕ). IsSequencesOutput start bytes t Done) (append-nil l.text)
          (l.completes [] Done (λ _. refl) over),
      l.written,
    )

not_empty : (bytes : List ℕ) (ending : Ending) → 0 < length bytes → bytes ≡ [] → ending ≡ Done
not_empty bytes ending some none = absurd (omega (arith, some, ap length none))

-- a sequence more, whose image is written
pub leads_more : (start : DecoderState) (bytes : List ℕ) (now after : DecoderState)
    (rest tail : List ℕ) (image : Image) (a b c : Option (List ℕ)) → HasEnded now rest image after
    → tail ≡ rest_of rest → Appends b c (image_form image) → Leads start bytes now rest a b
    → Leads start bytes after tail a c
leads_more start bytes now after rest tail image a b c sequence follows grown l =
    let led : Leads start bytes after (rest_of rest) a c =
    record {
      text = l.text ++ image_form image;
      written = Appends-trans a b c _ _ l.written grown;
      completes = λ more ending ends is.
          subst (λ (t : List ℕ). IsSequencesOutput start bytes t ending)
          (sym (append_assoc l.text (image_form image) more))
          (l.completes (image_form image ++ more) ending (not_empty rest ending sequence.some)
          (Followed now after rest more image ending sequence ends is));
    } in
    subst (λ (t : List ℕ). Leads start bytes after t a c) (sym follows) led

-- what stops an output for the rest stops that for all
pub Serves-led : (A B : Type 0) (fault : Fault) (start : DecoderState) (bytes : List ℕ)
    (now : DecoderState) (rest : List ℕ) (a b c : Option (List ℕ)) → 0 < length rest
    → Leads start bytes now rest a b → Serves {A = A} (Err fault) (IsSequencesOutput now rest) b c
    → Serves {A = B} (Err fault) (IsSequencesOutput start bytes) a c
Serves-led A B (Sixel e) start bytes now rest a b c some l (more, is, grown) = (
  l.text ++ more,
  l.completes more (Refused e) (not_empty rest (Refused e) some) is,
  Appends-trans a b c _ _ l.written grown,
)
Serves-led A B Input start bytes now rest a b c some l served = served
Serves-led A B Output start bytes now rest a b c some l (more, (left, ending, is), grown) =
    let whole =
    subst (λ (t : List ℕ). IsSequencesOutput start bytes t ending)
    (sym (append_assoc l.text more left))
    (l.completes (more ++ left) ending (not_empty rest ending some) is) in
    (l.text ++ more, (left, ending, whole), Appends-trans a b c _ _ l.written grown)

-- ---- a sequence with an image that could not be written whole

-- an output for any bytes
some_output : (decoder : DecoderState) (bytes : List ℕ)
    → (ending : Ending) × (bytes ≡ [] → ending ≡ Done) × IsSequencesOutput decoder bytes [] ending
some_output decoder [] = (Done, (λ _. refl), Over decoder)
some_output decoder (byte ∷ bytes) =
    let ends : byte ∷ bytes ≡ [] → Refused OutOfMemory ≡ Done = λ none. absurd cc in
    (Refused OutOfMemory, ends, Broken decoder (byte ∷ bytes) OutOfMemory refl)

-- nothing is written if an allocation fails
refused_image : (now after : DecoderState) (bytes text : List ℕ) (image : Image) (e : SixelError)
    → HasEnded now bytes image after
    → IsImageOutput image_form None (λ i. i ≡ image) text (Refused e)
    → IsSequencesOutput now bytes text (Refused e)
refused_image now after bytes text image e sequence (nothing, why) =
    let here : data_fault.Faults e true (sequence_fault now.pixel_limit bytes) =
    subst (λ f. data_fault.Faults e true f) (sym sequence.faultless) why in
    subst (λ (t : List ℕ). IsSequencesOutput now bytes t (Refused e))
    (sym nothing) (Broken now bytes e here)

-- what is written before a writer fails is a beginning of the output
begun_image :
    (now after : DecoderState) (bytes text left : List ℕ) (image : Image) (ending : Ending)
    → HasEnded now bytes image after
    → IsImageOutput image_form None (λ i. i ≡ image) (text ++ left) ending
    → Begins (IsSequencesOutput now bytes) text
begun_image now after bytes text left image Done sequence (_, (i, same, form)) =
    let (ending, ends, is) = some_output after (rest_of bytes) in
    let whole : image_form image ++ [] ≡ text ++ left =
    append-nil (image_form image) ∙ sym (form ∙ ap image_form same) in (
      left,
      ending,
      subst (λ (t : List ℕ). IsSequencesOutput now bytes t ending) whole
          (Followed now after bytes [] image ending sequence ends is),
    )
begun_image now after bytes text left image (Refused e) sequence is = (
  left,
  Refused e,
  refused_image now after bytes (text ++ left) image e sequence is,
)
begun_image now after bytes text left image (Unreadable e) sequence is = absurd is

-- such an image ends the output
pub Serves-broken : (A B : Type 0) (fault : Fault) (now after : DecoderState) (bytes : List ℕ)
    (image : Image) (a b : Option (List ℕ)) → HasEnded now bytes image after
    → Serves {A = A} (Err fault) (IsImageOutput image_form None (λ i. i ≡ image)) a b
    → Serves {A = B} (Err fault) (IsSequencesOutput now bytes) a b
Serves-broken A B (Sixel e) now after bytes image a b sequence (text, is, grown) = (
  text,
  refused_image now after bytes text image e sequence is,
  grown,
)
Serves-broken A B Input now after bytes image a b sequence served = served
Serves-broken A B Output now after bytes image a b sequence (text, (left, ending, is), grown) = (
  text,
  begun_image now after bytes text left image ending sequence is,
  grown,
)

smaller_by : (bytes : List ℕ) (status : SixelDcsFeedStatus) → 0 < length bytes
    → dcs_status bytes ≡ status
    → length (rest_by status (drop (dcs_count bytes) bytes)) < length bytes
smaller_by bytes Complete some is =
    grind (arith, nat_tests, complete_counts bytes is, length-drop, some)
smaller_by bytes NeedMoreData some is = omega (arith, some)
smaller_by bytes (Cancelled byte) some is = omega (arith, some)
smaller_by bytes (Interrupted byte) some is = omega (arith, some)

-- fewer bytes are left after a sequence
pub rest_smaller : (bytes : List ℕ) → 0 < length bytes → length (rest_of bytes) < length bytes
rest_smaller bytes some = smaller_by bytes (dcs_status bytes) some refl
