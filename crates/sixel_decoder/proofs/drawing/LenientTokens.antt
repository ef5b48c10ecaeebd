-- What a painter has drawn of all tokens where commands with a fault may be ignored.
use Rattle.std.proofs.Common.{◌≡◌, ℕ, ◌-◌, ◌<◌, ◌≤◌, Bool, true, false, List, [], ◌∷◌, refl, ◌∙◌}
use Rattle.std.proofs.Common.{length, take, get_or, Some, None, Result, arith}
use Rattle.std.proofs.lemmas.Bool.Decides.{nat_tests}
use Rattle.std.specs.Prelude.{IfErr, fold, min, ◌+◌}
use Rattle.sixel_base.specs.{declared.error.SixelError.SixelError, Fault.{Fault, Faults, is_fault}}
use Rattle.sixel_base.specs.{History.{Token, Sixel, Repeat, History, read}, Lenient.count_limit}
use Rattle.sixel_base.specs.{Lenient.{effective, ignored_count, tolerated, without}, Limits.Limit}
use Rattle.sixel_base.specs.{Payload.{first_fault, settled, settled_tokens}, Stroke.Origin}
use Rattle.sixel_base.proofs.ToleratedTokens.{effective-more, effective-strict, count-more}
use Rattle.sixel_base.proofs.ToleratedTokens.{count-without, effective-without, option_or-none}
use Rattle.sixel_canvas.specs.declared.drawing.Canvas.{Ghosts}
use Rattle.sixel_decoder.specs.{Paints.sixels, declared.painter.Painter.Painter}
use Rattle.sixel_decoder.specs.inside.Lenient.{Tolerates, HasDrawn, tolerated_count}
use Rattle.sixel_decoder.specs.{inside.Lenient.tolerated_result, inside.Painter.{Draws, Shows}}
use Rattle.sixel_decoder.specs.inside.Runs.{IsRun, IsSixelByte, bits_of}
use Rattle.sixel_decoder.proofs.drawing.SixelRuns.{IsRun-take, fold_one, fold_run, with_sixels}
use Rattle.sixel_decoder.proofs.drawing.TokenFaults.{fault_found}

-- one more token that was drawn
pub has_drawn_more : {C : Type 0} {canvas : Ghosts C} (o : Origin) (painter : Painter C canvas)
    (n : ℕ) (token : Token) (h : History) → Shows o painter (token ∷ effective o.pixel_limit h)
    → n ≡ ignored_count o.pixel_limit h → HasDrawn o painter n (token ∷ h)
has_drawn_more o painter n token h shows count =
    grind (arith, nat_tests, effective-more, count-more)

-- one that is ignored
pub has_drawn_without : {C : Type 0} {canvas : Ghosts C} (o : Origin) (painter : Painter C canvas)
    (n : ℕ) (token : Token) (h : History) (f : Fault) → o.pixel_limit.lenient ≡ true
    → first_fault o.pixel_limit (token ∷ effective o.pixel_limit h) ≡ Some f
    → Shows o painter (without token (effective o.pixel_limit h))
    → n ≡ ignored_count o.pixel_limit h → HasDrawn o painter (min (n + 1) count_limit) (token ∷ h)
has_drawn_without o painter n token h f on found shows count =
    grind (arith, effective-without, count-without)

-- a command that was drawn, or has a fault that may be ignored
pub tolerates : {C : Type 0} {canvas : Ghosts C} (outcome result : Result (Unit {0}) SixelError)
    (lenient : Bool) (o : Origin) (old new : Painter C canvas) (n m : ℕ) (token : Token)
    (h : History) → lenient ≡ old.pixel_limit.lenient → result ≡ tolerated_result lenient outcome
    → m ≡ tolerated_count lenient outcome n → ((w : History) → without token w ≡ w)
    → HasDrawn o old n h → Draws outcome o new (token ∷ effective o.pixel_limit h) false
    → IfErr outcome (λ error. is_fault error ≡ true → new ≡ old)
    → Tolerates result o new m (token ∷ h)
tolerates outcome result lenient o old new n m token h on is counts other state draws kept =
    grind (arith, has_drawn_more, effective-strict, fault_found, has_drawn_without)

-- ---- sixels at the front of bytes

sixels-older : (limit : Limit) (h : History) (sixels : List ℕ)
    → first_fault limit (with_sixels h sixels) ≡ None → first_fault limit h ≡ None
sixels-older limit h [] none = none
sixels-older limit h (bits ∷ more) none =
    grind (arith, option_or-none, sixels-older limit (Sixel bits ∷ h) more none)

-- sixels that have no fault after the tokens that count
effective-sixels : (limit : Limit) (h : History) (sixels : List ℕ)
    → first_fault limit (with_sixels (effective limit h) sixels) ≡ None
    → (effective limit (with_sixels h sixels) ≡ with_sixels (effective limit h) sixels)
    × (ignored_count limit (with_sixels h sixels) ≡ ignored_count limit h)
effective-sixels limit h [] none = (refl, refl)
effective-sixels limit h (bits ∷ more) none =
    let first = sixels-older limit (Sixel bits ∷ effective limit h) more none in
    let one = effective-more limit (Sixel bits) h first in
    let rest = effective-sixels limit (Sixel bits ∷ h) more (rw one none) in
    (rw one at rest.0, rest.1 ∙ count-more limit (Sixel bits) h first)

-- that were drawn
pub has_drawn_front : {C : Type 0} {canvas : Ghosts C} (o : Origin) (painter : Painter C canvas)
    (n : ℕ) (h : History) (drawn : ℕ) (bytes : List ℕ) → drawn ≤ length bytes
    → ((k : ℕ) → k < drawn → IsSixelByte (get_or bytes k 0))
    → Shows o painter (fold read (effective o.pixel_limit h) (take drawn bytes))
    → n ≡ ignored_count o.pixel_limit h → HasDrawn o painter n (fold read h (take drawn bytes))
has_drawn_front o painter n h drawn bytes le are shows count =
    let run = take drawn bytes in
    let is : IsRun run = IsRun-take drawn bytes le are in
    let drawn = rw (fold_run (effective o.pixel_limit h) run is) at shows in
    let same = effective-sixels o.pixel_limit h (bits_of run) drawn.faultless in
    rw (fold_run h run is)
    (record { shows = rw same.0 drawn; count = rw same.1 count })

-- a sixel that is ignored
pub has_drawn_ignored : {C : Type 0} {canvas : Ghosts C} (e : SixelError) (o : Origin)
    (old new : Painter C canvas) (n : ℕ) (h : History) (bytes : List ℕ)
    → 0 < length bytes → IsSixelByte (get_or bytes 0 0)
    → old.pixel_limit.lenient ≡ true → is_fault e ≡ true → HasDrawn o old n h
    → Faults e true
    (first_fault o.pixel_limit (Sixel (get_or bytes 0 0 - 63) ∷ effective o.pixel_limit h))
    → Shows o new (Repeat [] ∷ effective o.pixel_limit h)
    → HasDrawn o new (min (n + 1) count_limit) (fold read h (take 1 bytes))
has_drawn_ignored e o old new n h bytes some is lenient faulty state refused shows =
    let on = rw state.shows.limit at lenient in
    rw (fold_one h bytes some is) (fault_found e true _ _ refused faulty (λ f found.
    has_drawn_without o new n _ h f on found shows state.count))

-- ---- how many sixels there are

-- tolerated tokens have no more sixels than all
sixels-tolerated : (limit : Limit) (h : History) → sixels (tolerated limit h) ≤ sixels h
sixels-tolerated limit [] = omega arith
sixels-tolerated limit (token ∷ h) = grind (arith, nat_tests, sixels-tolerated limit h)

-- nor have those that take effect
pub sixels-settled : (limit : Limit) (bytes : List ℕ)
    → sixels (settled_tokens limit bytes) ≤ sixels (settled bytes)
sixels-settled limit bytes = grind (arith, nat_tests, sixels-tolerated)
