-- How much of a chunk a parser has read, and what stays true of the chunk's whole history.
use Rattle.std.proofs.Common.{◌≡◌, ℕ, ◌≤◌, true, List, [], ◌∷◌, arith, Some}
use Rattle.std.{proofs.lemmas.Bool.Decides.nat_tests, specs.Prelude.fold}
use Rattle.sixel_base.{proofs.ToleratedTokens.fault-along, specs.Fault.Fault, specs.History.History}
use Rattle.sixel_base.{specs.History.{longer, goes_on, read}, specs.Lenient.fault}
use Rattle.sixel_base.{specs.Limits.Limit, specs.Payload.{first_fault, closed, growths}}
use Rattle.sixel_decoder.proofs.chunks.ParserSteps.{fault_stays}

-- ---- what is rejected stays rejected

-- a fault of the tokens that are closed is one of all
pub whole_first : (limit : Limit) (h : History) (f : Fault) → first_fault limit (closed h) ≡ Some f
    → first_fault limit h ≡ Some f
whole_first limit h f is = grind (arith, nat_tests)

pub whole_fault : (limit : Limit) (h : History) (f : Fault) → fault limit (closed h) ≡ Some f
    → fault limit h ≡ Some f
whole_fault limit h f = fault-along limit (closed h) h f (whole_first limit h f)

-- a command that goes on closes nothing
pub closed-longer : (h : History) (byte : ℕ) → goes_on h byte ≡ true → closed (longer h byte)
    ≡ closed h
closed-longer h byte goes = grind (arith, nat_tests)

pub read_fault : (limit : Limit) (h : History) (byte : ℕ) (f : Fault)
    → fault limit (closed h) ≡ Some f → fault limit (closed (read h byte)) ≡ Some f
read_fault limit h byte f is = grind (arith, closed-longer, fault_stays, whole_fault)

pub fold_fault : (limit : Limit) (h : History) (bytes : List ℕ) (f : Fault)
    → fault limit (closed h) ≡ Some f → fault limit (closed (fold read h bytes)) ≡ Some f
fold_fault limit h [] f is = is
fold_fault limit h (byte ∷ bytes) f is =
    fold_fault limit (read h byte) bytes f (read_fault limit h byte f is)

pub growths-read : (h : History) (byte : ℕ) → growths (closed h) ≤ growths (closed (read h byte))
growths-read h byte = grind (arith, nat_tests)

pub growths-fold : (h : History) (bytes : List ℕ)
    → growths (closed h) ≤ growths (closed (fold read h bytes))
growths-fold h [] = omega arith
growths-fold h (byte ∷ bytes) = omega (arith, growths-read h byte, growths-fold (read h byte) bytes)
