-- What a session that was fed some of the bytes shows about the DCS sequence at their start.
use Rattle.std.proofs.Common.{◌≡◌, ℕ, ◌<◌, Bool, true, false, List, [], ◌∷◌, ◌++◌, append-nil, refl}
use Rattle.std.proofs.Common.{ap, sym, ◌∙◌, arith, length, take, drop, Option, Some, None}
use Rattle.std.proofs.{lemmas.Bool.Decides.nat_tests, lemmas.List.take-append-drop}
use Rattle.std.specs.{Option.option_or, Prelude.{◌==◌, if◌then◌else◌}}
use Rattle.sixel_base.specs.{Dcs.{dcs_status, dcs_fault, has_ended, end_fault}, Fault.Fault}
use Rattle.sixel_base.specs.{Fault.Faults, Limits.Limit, declared.error.SixelError.SixelError}
use Rattle.icy_sixel.specs.{Receiver.OfString, inside.Session.IsWhole}
use Rattle.icy_sixel.proofs.Chunks.{rejoined, same}
use Rattle.sixel.specs.Sequences.{sequence_fault}

-- a list whose length is 0 is empty
pub no_bytes : (bytes : List ℕ) → true ≡ (length bytes == 0) → bytes ≡ []
no_bytes [] is = refl
no_bytes (byte ∷ bytes) is = absurd (grind (arith, nat_tests))

-- there is a byte where a list is not empty
pub some_bytes : (bytes : List ℕ) → false ≡ (length bytes == 0) → 0 < length bytes
some_bytes bytes is = grind (arith, nat_tests)

sequence_fault-some : (limit : Limit) (bytes : List ℕ) → 0 < length bytes
    → sequence_fault limit bytes ≡ option_or (dcs_fault limit bytes) (end_fault limit bytes)
sequence_fault-some limit bytes some = grind (arith, nat_tests)

-- an error of a fault is one of any fault that contains it
Faults-weaker : (e : SixelError) (may : Bool) (found found' : Option Fault)
    → ((f : Fault) → found ≡ Some f → found' ≡ Some f) → Faults e may found
    → Faults e true found'
Faults-weaker e may found found' stays is = grind (arith, nat_tests)

-- what is wrong with the bytes is the sequence's fault
pub refused_early : (e : SixelError) (may : Bool) (limit : Limit) (bytes : List ℕ)
    → 0 < length bytes
    → Faults e may (dcs_fault limit bytes) → Faults e true (sequence_fault limit bytes)
refused_early e may limit bytes some is =
    Faults-weaker e may (dcs_fault limit bytes) (sequence_fault limit bytes)
    (λ f found.
    sequence_fault-some limit bytes some
    ∙ ap (λ o. option_or o (end_fault limit bytes)) found)
    is

-- what was fed and what is left are all bytes, also after one chunk more
pub fed_more : (n : ℕ) (fed chunk more left rest bytes : List ℕ) → chunk ≡ take n rest
    → left ≡ drop n rest → more ≡ fed ++ chunk → fed ++ rest ≡ bytes → more ++ left ≡ bytes
fed_more n fed chunk more left rest bytes front back grown joined =
    rejoined fed chunk more left rest bytes grown
    (rw (front, back) (take-append-drop n rest)) joined

-- with the rest, if it has ended, it makes up all bytes
pub followed_joined : (fed bytes : List ℕ) (whole : IsWhole OfString fed bytes)
    → (if has_ended (dcs_status fed) then fed ++ whole.left else fed) ≡ bytes
followed_joined fed bytes whole = grind (arith, append-nil)

-- what is wrong with all bytes, by the end of what was fed without a fault
fault_by : (limit : Limit) (fed bytes : List ℕ) → 0 < length bytes → IsWhole OfString fed bytes
    → dcs_fault limit fed ≡ None → sequence_fault limit bytes ≡ end_fault limit fed
fault_by limit fed bytes some whole none =
    let all = same limit OfString fed bytes whole in
    sequence_fault-some limit bytes some
    ∙ ap (λ o. option_or o (end_fault limit bytes)) (all.same.faults ∙ none) ∙ sym all.ends

-- a sequence without a fault at its end has none
pub faultless_by : (limit : Limit) (fed bytes : List ℕ) → 0 < length bytes
    → IsWhole OfString fed bytes → dcs_fault limit fed ≡ None → end_fault limit fed ≡ None
    → sequence_fault limit bytes ≡ None
faultless_by limit fed bytes some whole none ends = fault_by limit fed bytes some whole none ∙ ends

-- an error at the end of what was fed is the sequence's fault, or an allocation failed
pub refused_at_end : (e : SixelError) (may : Bool) (limit : Limit) (fed bytes : List ℕ)
    → 0 < length bytes → IsWhole OfString fed bytes → dcs_fault limit fed ≡ None
    → Faults e may (end_fault limit fed) → Faults e true (sequence_fault limit bytes)
refused_at_end e may limit fed bytes some whole none wrong =
    Faults-weaker e may (end_fault limit fed) (sequence_fault limit bytes)
    (λ f found. fault_by limit fed bytes some whole none ∙ found) wrong
