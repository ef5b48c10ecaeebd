-- What a writer has after a write of some bytes and then of the rest.
use Rattle.std.proofs.Common.{◌≡◌, ◌++◌, ℕ, ◌+◌, ◌-◌, List, append_assoc, length, take, drop, refl}
use Rattle.std.proofs.{Common.{Err, take-add, Option, arith}, KnownBytes.Appends-trans}
use Rattle.std.proofs.lemmas.{Bool.Decides.nat_tests, List.take_rest}
use Rattle.std.specs.Io.KnownBytes.{Appends}
use Rattle.sixel.specs.declared.{fault.Fault.Fault, fault.Fault.TheVariants.{Sixel, Input, Output}}
use Rattle.sixel.specs.{Ending.Done, WorkOutput.{IsWhole, Serves}}

-- a write of what is left of the bytes goes on where the earlier ones stopped
pub Appends-rest : (a b c : Option (List ℕ)) (bytes : List ℕ) (done count : ℕ)
    → Appends a b (take done bytes)
    → Appends b c (take count (take (length bytes - done) (drop done bytes)))
    → Appends a c (take (done + count) bytes)
Appends-rest a b c bytes done count before more =
    grind (arith, nat_tests, take_rest, take-add, Appends-trans)

-- a part of the bytes that could not be written whole
pub Serves-after : (A B : Type 0) (fault : Fault) (front part rest whole : List ℕ)
    (a b c : Option (List ℕ)) → Appends a b front → Serves {A = A} (Err fault) (IsWhole part) b c
    → front ++ (part ++ rest) ≡ whole → Serves {A = B} (Err fault) (IsWhole whole) a c
Serves-after A B (Sixel e) front part rest whole a b c before served all = grind (arith, nat_tests)
Serves-after A B Input front part rest whole a b c before served all = served
Serves-after A B Output front part rest whole a b c before (text, (left, _, is), grown) all = (
  front ++ text,
  (left ++ rest, Done, (grind (arith, append_assoc), refl)),
  Appends-trans _ _ _ _ _ before grown,
)
