-- Register 0 after an opaque drawing has the color of entry 0, in both forms of its text.
use Rattle.std.specs.Prelude.{None, Some, codes}
use Rattle.std.proofs.Common.{Bool, List, arith, cond, false, length, refl, true, ℕ, ◌<◌, ◌≡◌}
use Rattle.sixel_base.specs.OneShot.{AreFoundRegisters, found}
use Rattle.sixel_base.specs.declared.settings.BackgroundMode.TheVariants.{Opaque}
use Rattle.sixel_base.specs.declared.state.DecoderState.{DecoderState}
use Rattle.sixel_encoder.specs.{Compact.{compact_marks, marked_text}, Form.form_text}
use Rattle.sixel_encoder.specs.Marks.{Definition, Draws, Mark, marks_payload, register_entry}
use Rattle.sixel_encoder.specs.{RegisterOrder.numbered_definitions, Text.{Drawing, text_of}}
use Rattle.sixel_encoder.specs.{Trip.{HasBackground, IsWritable}, declared.form.TextForm.TextForm}
use Rattle.sixel_encoder.specs.declared.form.TextForm.TheVariants.{Compact, Plain}
use Rattle.sixel_encoder.proofs.compact_form.RegisterNumbers.{register_entry-background}
use Rattle.sixel_encoder.proofs.{compact_form.Text.Draws-compact, plain_text.Marks.Draws-plain}
use Rattle.sixel_encoder.proofs.plain_text.Marks.{register_entry-plain, payload-plain}
use Rattle.sixel_encoder.proofs.plain_text.Marks.{plain_definitions, plain_marks}
use Rattle.sixel_encoder.proofs.{plain_text.Text.text_of-parts, round_trip.DcsText.found-sequence}
use Rattle.sixel_encoder.proofs.{round_trip.DcsText.sequence_of, round_trip.Trip.payload-register}

module _ (decoder : DecoderState) (drawing : Drawing) (after : List (List ℕ))
    (is : IsWritable drawing) (size : length decoder.registers ≡ 256)
    (strict : decoder.pixel_limit.lenient ≡ false) where
  -- definitions that give register 0 entry 0 do so in a text of them
  register-sequence : (definitions : List Definition) (marks : List Mark) (text : List ℕ)
      → Draws drawing definitions marks → register_entry definitions None 0 ≡ Some 0
      → text ≡ sequence_of drawing (marks_payload drawing definitions marks)
      → AreFoundRegisters decoder (found text) after
      → HasBackground drawing after
  register-sequence definitions marks text draws e same are =
      let payload : List ℕ = marks_payload drawing definitions marks in
      let read = rw (same, found-sequence drawing payload) at are in
      rw read
      (payload-register drawing definitions marks decoder (codes "\\") 0 0 is draws size strict e)

  -- both forms have such definitions
  pub background-form : (form : TextForm) → drawing.background_mode ≡ Opaque
      → 0 < length drawing.colors → AreFoundRegisters decoder (found (form_text form drawing)) after
      → HasBackground drawing after
  background-form form opaque some are = go form are
    where
      plain : AreFoundRegisters decoder (found (text_of drawing)) after
          → HasBackground drawing after
      plain read =
          register-sequence (plain_definitions drawing) (plain_marks drawing) (text_of drawing)
          (Draws-plain drawing is) (register_entry-plain (length drawing.colors) 0 some)
          (grind (arith, text_of-parts, payload-plain)) read

      chosen : (b : Bool)
          → AreFoundRegisters decoder (found (cond b (text_of drawing) (marked_text drawing))) after
          → HasBackground drawing after
      chosen true read = plain read
      chosen false read =
          register-sequence (numbered_definitions drawing) (compact_marks drawing) _
          (Draws-compact drawing is) (register_entry-background drawing is opaque some) refl read

      go : (which : TextForm) → AreFoundRegisters decoder (found (form_text which drawing)) after
          → HasBackground drawing after
      go Plain read = plain read
      go Compact read = chosen _ read
