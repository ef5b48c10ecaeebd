-- The payload of a DCS sequence is that of decoding its bytes in one call.
use Rattle.std.proofs.lemmas.Bool.Decides.{nat_tests}
use Rattle.std.proofs.Common.{arith, ◌≡◌, ℕ, true, List, [], ◌∷◌, refl, ap, ◌∙◌, Some}
use Rattle.sixel_base.specs.Dcs.{Introduced, Waiting, Absent, Entered, introduced, escaped, Reading}
use Rattle.sixel_base.specs.{Dcs.{stage_after, stage_by, stage}, Header.{Headed, Open, Begun}}
use Rattle.sixel_base.specs.{Header.{Faulty, headed}, OneShot.{begins_with_p, without_first}}
use Rattle.sixel_base.specs.OneShot.{after_introducer, found, found_in, found_by, Payload}
use Rattle.sixel_base.specs.Settings.{Settings}

escaped_introducer : (bytes rest : List ℕ) → escaped bytes ≡ Entered rest
    → (begins_with_p bytes ≡ true) × (without_first bytes ≡ rest)
escaped_introducer [] rest is = absurd cc
escaped_introducer (byte ∷ bytes) rest is = grind (arith, nat_tests)

introduced_introducer : (bytes rest : List ℕ) → introduced bytes ≡ Entered rest
    → after_introducer bytes ≡ Some rest
introduced_introducer [] rest is = absurd cc
introduced_introducer (byte ∷ bytes) rest is = grind (arith, nat_tests, escaped_introducer)

found_after : (rest : List ℕ) (h : Headed) (s : Settings) (payload : List ℕ)
    → stage_after rest h ≡ Reading s payload → found_by rest h ≡ Payload s payload
found_after rest Open s payload is = absurd cc
found_after rest (Begun b) s payload is = cc
found_after rest (Faulty f) s payload is = absurd cc

found_by_introducer : (bytes : List ℕ) (i : Introduced) (s : Settings) (payload : List ℕ)
    → introduced bytes ≡ i → stage_by i ≡ Reading s payload → found bytes ≡ Payload s payload
found_by_introducer bytes Waiting s payload e is = absurd cc
found_by_introducer bytes Absent s payload e is = absurd cc
found_by_introducer bytes (Entered rest) s payload e is =
    ap (found_in bytes) (introduced_introducer bytes rest e)
    ∙ found_after rest (headed rest) s payload is

-- the payload that was read is the payload that is found
pub found_reading : (bytes : List ℕ) (s : Settings) (payload : List ℕ)
    → stage bytes ≡ Reading s payload → found bytes ≡ Payload s payload
found_reading bytes s payload is = found_by_introducer bytes (introduced bytes) s payload refl is
