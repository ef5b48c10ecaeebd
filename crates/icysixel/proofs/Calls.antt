-- The codes of errors: of a call on an image and a palette, and of finishing an image, which finds
-- no missing command.
use Rattle.std.proofs.Common.{◌≡◌, ℕ, Bool, false, inl, inr, refl, arith, ◌≢◌, true, List}
use Rattle.std.{proofs.lemmas.Bool.Decides.nat_tests, specs.Prelude.{Err, IsTrue, None, Ok, Option}}
use Rattle.std.specs.Prelude.{Result, Some, IfErr, MatchBool}
use Rattle.sixel_base.{specs.CallFault.{CallFault, FailsBy, IsCallFault}, specs.Fault.Fault}
use Rattle.sixel_base.{specs.Fault.{Faults, MissingCommand}, specs.Limits.Limit}
use Rattle.sixel_base.specs.declared.error.SixelError.{SixelError}
use Rattle.sixel_base.specs.declared.error.SixelError.TheVariants.{OutOfMemory}
use Rattle.icysixel.{specs.Code.{IsCallCode, IsCodeOf}, specs.Encodings.FailsByCode}
use Rattle.icysixel.{specs.Finish.IsFinished, specs.Heights.IsStored}
use Rattle.icysixel.{specs.declared.shape.Shape.Shape, specs.declared.state.State.State}
use Rattle.sixel_decoder.specs.FinishedImages.{IsAgain, end_fault, end_wants}
use Rattle.icy_sixel.{proofs.StoredErrors.end_other, specs.Receiver.{Form, is_open}}
use Rattle.icy_sixel.specs.declared.receiver.received_image.Height.{Height}
use Rattle.icy_sixel.specs.declared.receiver.received_image.ReceivedImage.{ReceivedImage}

-- the code of the error is that of the fault
pub failed_by_code : (X Y : Type 0) (error : SixelError) (code : ℕ) (fault : Option CallFault)
    → FailsBy {X = X} fault (Err error) → (error ≡ OutOfMemory → code ≡ 8)
    → ((found : CallFault) → IsCallFault error found → IsCallCode code found)
    → FailsByCode {X = Y} false fault (Err code)
failed_by_code X Y error code fault is memory call = grind (arith, nat_tests)

-- so it has where rows are copied, too
pub failed_copied : (X : Type 0) (some all : Bool) (fault : Option CallFault)
    (result : Result X ℕ) → (IsTrue some → IsTrue all) → FailsByCode some fault result
    → FailsByCode all fault result
failed_copied X some all None result more is = is
failed_copied X some all (Some fault) (Ok value) more is = is
failed_copied X some all (Some fault) (Err code) more is =
    elim is [
      | inl own ↦ inl own
      | inr copied ↦ inr (copied.0, more copied.1)
    ]

-- where rows are copied the code can be that of memory
pub memory_copied : (X : Type 0) (copies : Bool) (fault : Option CallFault) → IsTrue copies
    → FailsByCode {X = X} copies fault (Err 8)
memory_copied X copies None is = refl
memory_copied X copies (Some fault) is = inr (refl, is)

error_other : (error : SixelError) (wants : Bool) (found : Option Fault) (code : ℕ)
    → found ≢ Some MissingCommand → Faults error wants found → IsCodeOf code error → code ≢ 16
error_other error wants found code other is told = grind (arith, nat_tests)

again_other : (failure : Option (Option Fault)) (form : Form) (error : SixelError) (code : ℕ)
    → IsAgain failure form error → IsCodeOf code error → code ≢ 16
again_other None form error code is told = grind (arith, nat_tests)
again_other (Some fault) form error code is told =
    error_other error _ fault code is.1 is.0 told

answer_other : (limit : Limit) (form : Form) (bytes : List ℕ) (was_refused : Bool)
    (failure : Option (Option Fault)) (answer : Result ReceivedImage SixelError) (height : Height)
    (complete : Bool) (stored : Option ReceivedImage) (now : Shape) (code : ℕ)
    → IfErr answer (λ error. MatchBool was_refused (IsAgain failure form error)
    (Faults error (end_wants limit form bytes) (end_fault limit form bytes)))
    → IsStored height complete answer stored now code → code ≢ 16
answer_other limit form bytes refused failure (Ok whole) height complete stored now code told is =
    omega (arith, is.0)
answer_other limit form bytes true failure (Err error) height complete stored now code told is =
    again_other failure form error code told is.1
answer_other limit form bytes false failure (Err error) height complete stored now code told is =
    error_other error _ _ code (end_other limit form bytes) told is.1

-- the code of finishing an image is not that of a missing command
pub finish_other : (before after : State) (now : Shape) (code : ℕ)
    → IsFinished before after now code → code ≢ 16
finish_other before after now code finished =
    let image = before.receiver.image in
    (elim (is_open image.form) as (λ t. is_open image.form ≡ t → code ≢ 16) [
      | true ↦ λ opened.
          let closed = finished.opened opened in
          answer_other image.start.pixel_limit image.form image.bytes image.is_refused image.failure
          closed.result _ _ _ now code closed.finished.finished.error closed.stored
      | false ↦ λ shut. omega (arith, finished.unopened shut)
    ]) refl
