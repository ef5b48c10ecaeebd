-- How far the tokens of a text reach: within the width, within the bands, and so without a fault.
use Rattle.std.specs.{Option.option_or, Prelude.{Option, flat_map}}
use Rattle.std.proofs.Common.{None, List, arith, length, length-append, max, refl, ℕ, ◌*◌, ◌+◌, ◌<◌}
use Rattle.std.proofs.{Common.{◌∷◌, ◌≡◌, ◌≤◌, [], ◌∙◌}, lemmas.Bool.Decides.nat_tests}
use Rattle.std.proofs.{lemmas.Grind.common_steps, lemmas.List.length-replicate, lemmas.Nat.mul-le}
use Rattle.sixel_base.specs.{Fault.Fault, History.{Color, History, Token}, Limits.Limit}
use Rattle.sixel_base.specs.{Payload.{fault_of, first_fault}, Place.{across, down, height, span}}
use Rattle.sixel_base.specs.Place.{width}
use Rattle.sixel_encoder.specs.RunTokens.{RunToken, sixels}
use Rattle.sixel_encoder.proofs.round_trip.RowSteps.{Moved-run_token, field-decimal}
use Rattle.sixel_encoder.proofs.round_trip.TextHistory.{AreSound, IsSound}
use Rattle.sixel_encoder.proofs.round_trip.Tokens.{with_run_token, with_run_tokens}

-- a size that is within the limits
pub record IsWithinLimits (limit : Limit) (w h : ℕ) : Type 0 where
  pub wide : w ≤ 1000000
  pub high : h ≤ 1000000
  pub area : w * h ≤ limit.pixels

-- a history is as wide as this, at most as high as that, and without a fault
pub record Fits (limit : Limit) (w h : ℕ) (history : History) : Type 0 where
  pub wide : width history ≡ w
  pub high : height history ≤ h
  pub sound : first_fault limit history ≡ None

-- a token without a fault adds none
pub first_fault-more : (limit : Limit) (token : Token) (older : History)
    → first_fault limit older ≡ None
    → fault_of limit token older ≡ None → first_fault limit (token ∷ older) ≡ None
first_fault-more limit token older before now = grind (arith, nat_tests)

-- a run-length token within the sizes
Fits-run_token : (limit : Limit) (w h : ℕ) (token : RunToken) (history : History)
    → IsWithinLimits limit w h
    → IsSound token → span history ≡ 1 → across history + length (sixels token) ≤ w
    → down history + 6 ≤ h → Fits limit w h history → Fits limit w h (with_run_token token history)
unfolding sixels
Fits-run_token limit w h token history small is one right lower fits =
    grind (arith, common_steps, nat_tests, field-decimal, length-replicate)

-- run-length tokens within the sizes
pub Fits-run_tokens : (limit : Limit) (w h : ℕ) (tokens : List RunToken) (history : History)
    → IsWithinLimits limit w h → AreSound tokens → span history ≡ 1
    → across history + length (flat_map sixels tokens) ≤ w → down history + 6 ≤ h
    → Fits limit w h history → Fits limit w h (with_run_tokens tokens history)
Fits-run_tokens limit w h [] history small are one right lower fits = fits
Fits-run_tokens limit w h (token ∷ tokens) history small are one right lower fits =
    let moved = Moved-run_token token history are.0 one in
    let both = length-append (sixels token) (flat_map sixels tokens) in
    Fits-run_tokens limit w h tokens (with_run_token token history) small are.1 moved.single
    (omega (arith, moved.place, both)) (omega (arith, moved.level))
    (Fits-run_token limit w h token history small are.0 one (omega (arith, both)) lower fits)

-- nor does a color introducer
pub Fits-color : (limit : Limit) (w h : ℕ) (t : List ℕ) (history : History) → Fits limit w h history
    → Fits limit w h (Color t ∷ history)
Fits-color limit w h t history fits = grind (arith, nat_tests, first_fault-more)

-- ---- another limit

-- where both are none
both-none : (a b : Option Fault) → option_or a b ≡ None → (a ≡ None) × (b ≡ None)
both-none a b is = grind (arith, nat_tests)

-- tokens without a fault have none within another limit that their picture fits
pub first_fault-other : (limit other : Limit) (history : History)
    → first_fault limit history ≡ None
    → width history * height history ≤ other.pixels → first_fault other history ≡ None
first_fault-other limit other [] is small = refl
first_fault-other limit other (token ∷ older) is small =
    let both = both-none (first_fault limit older) (fault_of limit token older) is in
    first_fault-more other token older
    (first_fault-other limit other older both.0 (grind (arith, nat_tests, small, mul-le)))
    (grind (arith, common_steps, nat_tests))

-- ---- how high run-length tokens make the picture

-- a run-length token reaches to the end of its band
height-run_token : (token : RunToken) (history : History)
    → height (with_run_token token history) ≡ max (height history) (down history + 6)
height-run_token token history = grind (arith, nat_tests)

-- where the picture is as high already, run-length tokens keep its height
height-kept : (tokens : List RunToken) (history : History) → AreSound tokens → span history ≡ 1
    → down history + 6 ≤ height history → height (with_run_tokens tokens history) ≡ height history
height-kept [] history are one h = refl
height-kept (token ∷ tokens) history are one h =
    let moved = Moved-run_token token history are.0 one in
    let new = height-run_token token history in
    let low : down (with_run_token token history) + 6 ≤ height (with_run_token token history) =
    omega (arith, moved.level, new) in
    height-kept tokens (with_run_token token history) are.1 moved.single low ∙ omega (arith, new)

-- run-length tokens with a sixel reach to the end of their band
pub height-run_tokens : (tokens : List RunToken) (h : History) → AreSound tokens → span h ≡ 1
    → 0 < length (flat_map sixels tokens)
    → height (with_run_tokens tokens h) ≡ max (height h) (down h + 6)
height-run_tokens [] h are one some = absurd (omega arith)
height-run_tokens (token ∷ tokens) h are one some = grind (arith, height-kept, height-run_token)
