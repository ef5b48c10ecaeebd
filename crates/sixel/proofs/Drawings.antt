-- What is drawn of the image of a file, and what a call on it reports.
use Rattle.std.proofs.Common.{◌≡◌, Option, None, Ok, List, ℕ, Result, arith}
use Rattle.std.proofs.lemmas.Bool.Decides.{nat_tests}
use Rattle.sixel_base.specs.{CallFault.{CallFault, FailsBy}, Payload.Image}
use Rattle.sixel.specs.{Drawing.painting_read, declared.netpbm.error.NetpbmError.NetpbmError}

-- a call that returned a value has no fault
pub no_call_fault : {X : Type 0} (fault : Option CallFault) (x : X) → FailsBy fault (Ok x)
    → fault ≡ None
no_call_fault fault x by = grind (arith, nat_tests)

-- the colors and the image of two files that were read
pub both_read : (palette : Result (List (List ℕ)) NetpbmError) (image : Result Image NetpbmError)
    (colors : List (List ℕ)) (drawn : Image) → palette ≡ Ok colors → image ≡ Ok drawn
    → painting_read palette image ≡ Ok (record { colors = colors; image = drawn })
both_read palette image colors drawn read_colors read_image = grind (arith, nat_tests)
