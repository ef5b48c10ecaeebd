-- What a painter has drawn where commands with a fault may be ignored, in the words of all tokens
-- that were read. Which of them take effect is in Lenient of sixel_base.
use Rattle.std.specs.Prelude.{ℕ, ◌≡◌, ◌∷◌, ◌-◌, ◌+◌, ◌&&◌, min, List, Bool, true, false}
use Rattle.std.specs.Prelude.{if◌then◌else◌, fold, take, slice_index, Result, Ok, Err, MatchResult}
use Rattle.sixel_base.specs.{Fault.{Faults, is_fault}, History.{History, Sixel, read}}
use Rattle.sixel_base.specs.{Lenient.{count_limit, effective, fault, ignored_count}, Stroke.Origin}
use Rattle.sixel_base.specs.declared.error.SixelError.{SixelError}
use Rattle.sixel_canvas.specs.declared.drawing.Canvas.{Ghosts}
use Rattle.sixel_decoder.specs.{declared.painter.Painter.Painter, inside.Painter.Shows}

-- The painter has drawn the tokens that take effect, and the number of the others is `ignored`.
pub record HasDrawn {C : Type 0} {canvas : Ghosts C} (origin : Origin) (painter : Painter C canvas)
    (ignored : ℕ) (history : History) : Type 0 where
  pub shows : Shows origin painter (effective origin.pixel_limit history)
  pub count : ignored ≡ ignored_count origin.pixel_limit history

-- The newest of these tokens, a command, was drawn or ignored, or is rejected.
abbrev pub Tolerates : {A C : Type 0} {canvas : Ghosts C} → Result A SixelError → Origin
    → Painter C canvas → ℕ → History → Type 0
Tolerates result origin painter ignored history =
    MatchResult result
    (λ _. HasDrawn origin painter ignored history)
    (λ error. Faults error false (fault origin.pixel_limit history))

-- The first `drawn` bytes, sixels, were drawn or ignored, or the first of them is rejected.
abbrev pub ToleratesFront : {C : Type 0} {canvas : Ghosts C} → Result ℕ SixelError → Origin
    → Painter C canvas → ℕ → History → List ℕ → Type 0
ToleratesFront result origin painter ignored history bytes =
    MatchResult result
    (λ drawn. HasDrawn origin painter ignored (fold read history (take drawn bytes)))
    (λ error.
    Faults error true (fault origin.pixel_limit (Sixel (slice_index bytes 0 - 63) ∷ history)))

-- the result of a command whose fault may be ignored
abbrev pub tolerated_result : Bool → Result (Unit {0}) SixelError → Result (Unit {0}) SixelError
tolerated_result lenient (Ok value) = Ok value
tolerated_result lenient (Err error) = if lenient && is_fault error then Ok tt else Err error

-- how many are ignored after it
abbrev pub tolerated_count : {A : Type 0} → Bool → Result A SixelError → ℕ → ℕ
tolerated_count lenient (Ok value) ignored = ignored
tolerated_count lenient (Err error) ignored =
    if lenient && is_fault error then min (ignored + 1) count_limit else ignored
