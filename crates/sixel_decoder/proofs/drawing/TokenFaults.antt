-- Which errors are faults of the tokens.
use Rattle.std.proofs.{Common.{◌≡◌, Bool, true, Option, Some, arith}, lemmas.Bool.Decides.nat_tests}
use Rattle.sixel_base.specs.{Fault.{Fault, Faults, is_fault}, declared.error.SixelError.SixelError}

-- an error that is a fault was found in the tokens
pub fault_found : (e : SixelError) (may : Bool) (found : Option Fault) (P : Type 0)
    → Faults e may found → is_fault e ≡ true → ((f : Fault) → found ≡ Some f → P) → P
fault_found e may found P is fault then = grind (arith, nat_tests)
