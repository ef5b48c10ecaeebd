-- Rows that a sixel sets pixels of, from the top: those that were drawn on so far.
use Rattle.std.proofs.Common.{◌≡◌, ◌≢◌, ℕ, ◌+◌, ◌/◌, ◌%◌, ◌^◌, ◌<◌, Bool, true, ◌&&◌, List, arith}
use Rattle.std.{proofs.lemmas.Bool.Decides.nat_tests, specs.Prelude.{nat_lt, if◌then◌else◌}}
use Rattle.sixel_base.specs.Picture.{is_struck}

-- the row of a bit that is set
pub is_struck-hit : (top bits bit : ℕ) → bit < 6 → (bits / 2 ^ bit) % 2 ≡ 1
    → is_struck top bits (top + bit) ≡ true
is_struck-hit top bits bit six hit = grind (arith, nat_tests)

-- a choice that two tests decide
pub if_and : (inside hit : Bool) (x y : List ℕ)
    → (if inside && hit then x else y) ≡ (if hit then (if inside then x else y) else y)
if_and inside hit x y = grind (arith, nat_tests)

-- some of the rows above n are struck, each in a way of its own
abbrev pub IsStruckAbove : {X : Type 0} → (ℕ → X → X) → (ℕ → Bool) → ℕ → (ℕ → X) → (ℕ → X) → Type 0
IsStruckAbove stroke struck n before after =
    (row : ℕ)
    → after row ≡ (if nat_lt row n && struck row then stroke row (before row) else before row)

-- the next row is struck
pub struck_more :
    {X : Type 0} (stroke : ℕ → X → X) (struck : ℕ → Bool) (n : ℕ) (before after next : ℕ → X)
    → IsStruckAbove stroke struck n before after → struck n ≡ true → next n ≡ stroke n (after n)
    → ((row : ℕ) → row ≢ n → next row ≡ after row) → IsStruckAbove stroke struck (n + 1) before next
struck_more stroke struck n before after next above hit at others = grind (arith, nat_tests)
