-- The tokens that lenient decoding tolerates have no fault, and those of a history without a fault
-- are all tolerated.
use Rattle.std.proofs.Common.{◌≡◌, true, false, [], ◌∷◌, refl, ap, cond, Option, Some, None, ◌+◌}
use Rattle.std.{proofs.Common.{arith, ℕ, List}, proofs.lemmas.Bool.Decides.nat_tests}
use Rattle.std.{proofs.lemmas.Grind.common_steps, specs.Option.option_or, specs.Prelude.min}
use Rattle.sixel_base.{specs.Fault.Fault, specs.History.{Token, History}, specs.Lenient.without}
use Rattle.sixel_base.specs.Lenient.{with_tolerated, tolerated, ignored, ignored_count, count_limit}
use Rattle.sixel_base.{specs.Lenient.{effective, fault}, specs.Limits.Limit, specs.Payload.fault_of}
use Rattle.sixel_base.{specs.Payload.first_fault, specs.Stroke.registers}

-- the tokens that take effect where one is ignored have no fault of their own
without-faultless : (limit : Limit) (token : Token) (older : History)
    → first_fault limit older ≡ None → first_fault limit (without token older) ≡ None
without-faultless limit token older none = grind (arith, common_steps, nat_tests)

with_tolerated-faultless : (limit : Limit) (token : Token) (older : History)
    → first_fault limit older ≡ None → first_fault limit (with_tolerated limit token older) ≡ None
with_tolerated-faultless limit token older none = grind (arith, nat_tests, without-faultless)

-- tolerated tokens have no fault
pub tolerated-faultless : (limit : Limit) (h : History) → first_fault limit (tolerated limit h)
    ≡ None
tolerated-faultless limit [] = refl
tolerated-faultless limit (token ∷ older) =
    with_tolerated-faultless limit token (tolerated limit older) (tolerated-faultless limit older)

-- the parts of an option that is none
pub option_or-none : (a b : Option Fault) → option_or a b ≡ None → a ≡ None
option_or-none a b none = grind (arith, nat_tests)

option_or-second : (a b : Option Fault) → option_or a b ≡ None → b ≡ None
option_or-second a b none = grind (arith, nat_tests)

-- a token without a fault stays
pub with_tolerated-same : (limit : Limit) (token : Token) (older : History)
    → fault_of limit token older ≡ None → with_tolerated limit token older ≡ token ∷ older
with_tolerated-same limit token older none = grind (arith, nat_tests)

-- a token with a fault is ignored
pub with_tolerated-without : (limit : Limit) (token : Token) (older : History) (fault : Fault)
    → fault_of limit token older ≡ Some fault
    → with_tolerated limit token older ≡ without token older
with_tolerated-without limit token older fault is = grind (arith, nat_tests)

-- without a fault all tokens are tolerated
pub tolerated-same : (limit : Limit) (h : History) → first_fault limit h ≡ None
    → tolerated limit h ≡ h
tolerated-same limit [] none = refl
tolerated-same limit (token ∷ older) none =
    let same = tolerated-same limit older (option_or-none (first_fault limit older) _ none) in
    rw same (with_tolerated-same limit token older (option_or-second _ _ none))

-- ---- by the setting

-- the tokens that count have the fault that is reported
pub effective-fault : (limit : Limit) (h : History) → first_fault limit (effective limit h)
    ≡ fault limit h
effective-fault limit h = grind (arith, nat_tests, tolerated-faultless)

-- a token that has no fault after those counts
pub effective-more : (limit : Limit) (token : Token) (h : History)
    → first_fault limit (token ∷ effective limit h) ≡ None → effective limit (token ∷ h)
    ≡ token ∷ effective limit h
effective-more limit token h is = grind (arith, nat_tests, option_or-second, with_tolerated-same)

-- an option that is some after one that is none
option_or-some : (a b : Option Fault) (f : Fault) → a ≡ None → option_or a b ≡ Some f → b ≡ Some f
option_or-some a b f none some = grind (arith, nat_tests)

-- a token that has a fault after those is ignored, where faults are
pub effective-without : (limit : Limit) (token : Token) (h : History) (f : Fault)
    → limit.lenient ≡ true → first_fault limit (token ∷ effective limit h) ≡ Some f
    → effective limit (token ∷ h) ≡ without token (effective limit h)
effective-without limit token h f is holds =
    grind (arith, nat_tests, tolerated-faultless, with_tolerated-without, option_or-some)

-- where faults are not ignored, a token after those that count has the fault that is reported
pub effective-strict : (limit : Limit) (token : Token) (h : History) → limit.lenient ≡ false
    → first_fault limit (token ∷ effective limit h) ≡ fault limit (token ∷ h)
effective-strict limit token h is = grind (arith, common_steps, nat_tests)

-- all tokens count where faults are not ignored
pub effective-off : (limit : Limit) (h : History) → limit.lenient ≡ false → effective limit h ≡ h
effective-off limit h off = ap (λ t. cond t (tolerated limit h) h) off

-- and nothing is wrong with them
pub fault-none : (limit : Limit) → fault limit [] ≡ None
fault-none limit = grind (arith, common_steps, nat_tests)

-- nor with tokens without a fault
pub fault-sound : (limit : Limit) (h : History) → first_fault limit h ≡ None → fault limit h ≡ None
fault-sound limit h none = grind (arith, common_steps, nat_tests)

-- a fault that stays the first one is reported then too
pub fault-along : (limit : Limit) (g h : History) (f : Fault)
    → (first_fault limit g ≡ Some f → first_fault limit h ≡ Some f)
    → fault limit g ≡ Some f → fault limit h ≡ Some f
fault-along limit g h f stays holds = grind (arith, common_steps, nat_tests)

-- where none is ignored, no token has a fault
ignored-step : (limit : Limit) (token : Token) (older : History)
    → (ignored limit older ≡ 0 → first_fault limit older ≡ None)
    → ignored limit (token ∷ older) ≡ 0 → first_fault limit (token ∷ older) ≡ None
ignored-step limit token older before holds = grind (arith, nat_tests, tolerated-same)

pub ignored-none : (limit : Limit) (h : History) → ignored limit h ≡ 0 → first_fault limit h ≡ None
ignored-none limit [] zero = refl
ignored-none limit (token ∷ older) zero = grind (arith, ignored-step, ignored-none limit older)

-- and without a fault none is ignored
pub none-ignored : (limit : Limit) (h : History) → first_fault limit h ≡ None → ignored limit h ≡ 0
none-ignored limit [] none = refl
none-ignored limit (token ∷ older) none =
    let first = option_or-none (first_fault limit older) (fault_of limit token older) none in
    let second = option_or-second (first_fault limit older) (fault_of limit token older) none in
    rw (tolerated-same limit older first, second) (none-ignored limit older first)

-- what a token does not change it does not change where it is ignored
pub effective-same : {A : Type 0} (f : History → A) (limit : Limit) (token : Token) (h : History)
    → ((w : History) → without token w ≡ w) → ((w : History) → f (token ∷ w) ≡ f w)
    → f (effective limit h) ≡ f (effective limit (token ∷ h))
effective-same f limit token h other same = grind (arith, common_steps, nat_tests)

-- ---- how many are ignored

-- a token without a fault is not ignored
pub count-more : (limit : Limit) (token : Token) (h : History)
    → first_fault limit (token ∷ effective limit h) ≡ None
    → ignored_count limit (token ∷ h) ≡ ignored_count limit h
count-more limit token h = grind (arith, option_or-second)

-- a token with one is, if the image is lenient
pub count-without : (limit : Limit) (token : Token) (h : History) (f : Fault)
    → limit.lenient ≡ true → first_fault limit (token ∷ effective limit h) ≡ Some f
    → ignored_count limit (token ∷ h) ≡ min (ignored_count limit h + 1) count_limit
count-without limit token h f is holds = grind (arith, tolerated-faultless, option_or-some)

-- ---- the registers, which no command with a fault defines

registers-tolerated : (limit : Limit) (start : List (List ℕ)) (h : History)
    → registers start (tolerated limit h) ≡ registers start h
registers-tolerated limit start [] = refl
registers-tolerated limit start (token ∷ h) =
    grind (arith, nat_tests, registers-tolerated limit start h)

-- so they are those of all tokens
pub registers-effective : (limit : Limit) (start : List (List ℕ)) (h : History)
    → registers start (effective limit h) ≡ registers start h
registers-effective limit start h = grind (arith, nat_tests, registers-tolerated)

-- the laws of tolerated tokens
pub ruleset laws = (tolerated-faultless, tolerated-same, ignored-none, none-ignored)
