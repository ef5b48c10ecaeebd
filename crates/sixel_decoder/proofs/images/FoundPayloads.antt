-- The meaning of the result for a whole DCS sequence.
use Rattle.std.proofs.Common.{◌≡◌, ◌+◌, ◌-◌, ◌≤◌, List, ℕ, Some, ◌∙◌, length, get_or, take, drop}
use Rattle.std.proofs.Common.{take_all, length-drop, arith}
use Rattle.std.proofs.lemmas.{Bool.Decides.nat_tests, List.{drop-drop, drop_all}}
use Rattle.sixel_base.specs.OneShot.{after_introducer}

-- ---- where the first introducer is

-- a tail as it is sliced
pub tail_whole : (index : ℕ) (bytes : List ℕ)
    → take (length bytes - index) (drop index bytes) ≡ drop index bytes
tail_whole index bytes = grind (arith, nat_tests, take_all, length-drop)

-- DCS as one byte
pub introduced_at_once : (bytes : List ℕ) → 1 ≤ length bytes → get_or bytes 0 0 ≡ 144
    → after_introducer bytes ≡ Some (drop 1 bytes)
introduced_at_once bytes some is = grind (arith, nat_tests)

-- as ESC and `P`
pub introduced_by_escape : (bytes : List ℕ) → 2 ≤ length bytes → get_or bytes 0 0 ≡ 27
    → get_or bytes 1 0 ≡ 80 → after_introducer bytes ≡ Some (drop 2 bytes)
introduced_by_escape bytes some is next = grind (arith, nat_tests)

-- as neither
not_introduced : (bytes : List ℕ) → (get_or bytes 0 0 ≡ 144 → ⊥)
    → (2 ≤ length bytes → get_or bytes 0 0 ≡ 27 → get_or bytes 1 0 ≡ 80 → ⊥)
    → after_introducer (drop 1 bytes) ≡ after_introducer bytes
not_introduced bytes once escape = grind (arith, nat_tests)

-- the same of the bytes from an index on, before which there is none
pub introduced_at : (n index : ℕ) (bytes rest : List ℕ) → rest ≡ drop index bytes
    → after_introducer (drop index bytes) ≡ after_introducer bytes
    → after_introducer rest ≡ Some (drop n rest)
    → after_introducer bytes ≡ Some (drop (index + n) bytes)
introduced_at n index bytes rest whole none here = grind (arith, nat_tests, drop-drop)

pub not_introduced_at : (index : ℕ) (bytes rest : List ℕ) → rest ≡ drop index bytes
    → after_introducer (drop index bytes) ≡ after_introducer bytes → (get_or rest 0 0 ≡ 144 → ⊥)
    → (2 ≤ length rest → get_or rest 0 0 ≡ 27 → get_or rest 1 0 ≡ 80 → ⊥)
    → after_introducer (drop (index + 1) bytes) ≡ after_introducer bytes
not_introduced_at index bytes rest whole none once escape =
    let here = not_introduced rest once escape in
    rw (← drop-drop 1 index bytes, ← whole) (here ∙ rw whole none)

-- what the search for an introducer needs
pub ruleset introductions = (
  nat_tests,
  tail_whole,
  drop_all,
  length-drop,
  introduced_at,
  introduced_at_once,
  introduced_by_escape,
  not_introduced_at,
)
