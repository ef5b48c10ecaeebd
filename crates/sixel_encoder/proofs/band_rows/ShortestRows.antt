-- No list of tokens that spells a row takes fewer bytes than the row's own tokens, and what these
-- are where equal sixels follow.
use Rattle.std.proofs.Common.{◌≡◌, ◌≢◌, ℕ, zero, suc, ◌+◌, ◌*◌, ◌<◌, ◌≤◌, List, ◌∷◌, ◌++◌, length}
use Rattle.std.proofs.Common.{replicate, refl, ap, sym, ◌∙◌, arith, length-append, append_assoc}
use Rattle.std.proofs.Common.{◌/◌, ◌%◌, [], get_or, drop, ◌-◌, min, inl, inr}
use Rattle.std.{proofs.Math.Nat.{div-eq-sub-div, mod-eq-sub-mod}, proofs.Math.Seq.drop-cons}
use Rattle.std.{proofs.lemmas.Bool.{cases_eq, cases_lt}, proofs.lemmas.Bool.Decides.nat_tests}
use Rattle.std.{proofs.lemmas.Grind.{common_steps, flat_map-append}, proofs.lemmas.List.append-nil}
use Rattle.std.proofs.lemmas.List.{get_or-drop, length-drop, replicate_more}
use Rattle.std.{proofs.lemmas.List.replicate-append-replicate, proofs.lemmas.List.Elements.All-head}
use Rattle.std.{proofs.lemmas.List.Elements.{All-tail, All-append}, specs.Prelude.{flat_map, All}}
use Rattle.sixel_base.specs.Limits.{repeat_limit}
use Rattle.sixel_encoder.proofs.band_rows.RunCost.{run_cost, run_cut, run_cost0, cost-append}
use Rattle.sixel_encoder.proofs.band_rows.RunCost.{cost-run, length-decimal1, length-decimal5}
use Rattle.sixel_encoder.specs.RunTokens.{RunToken, One, Many, sixels, spelling, written, cost}
use Rattle.sixel_encoder.specs.RunTokens.{IsRunToken, Spells, IsShortest, rest_tokens, run_tokens}
use Rattle.sixel_encoder.{specs.RunTokens.{tokens_after, row_tokens}, specs.inside.Runs.IsRun}

-- the bytes of the tokens of `n` equal sixels and a row
abbrev pub left : ℕ → ℕ → List ℕ → ℕ
left n b row = cost (tokens_after n b row)

pub left-nil : (n b : ℕ) → left n b [] ≡ run_cost n
left-nil n b = cost-run n b

-- a row that goes on with the same sixel
pub tokens_after-same : (n b c : ℕ) (row : List ℕ) → c ≡ b
    → tokens_after n b (c ∷ row) ≡ tokens_after (n + 1) b row
tokens_after-same n b c row e = grind (arith, nat_tests)

-- a row that goes on with another sixel
pub tokens_after-other : (n b c : ℕ) (row : List ℕ) → c ≢ b
    → tokens_after n b (c ∷ row) ≡ run_tokens n b ++ tokens_after 1 c row
tokens_after-other n b c row e = grind (arith, nat_tests)

pub left-other : (n b c : ℕ) (row : List ℕ) → c ≢ b → left n b (c ∷ row) ≡ run_cost n + left 1 c row
left-other n b c row e = grind (arith, nat_tests, cost-append, cost-run, tokens_after-other)

pub left-same : (n b c : ℕ) (row : List ℕ) → c ≡ b → left n b (c ∷ row) ≡ left (n + 1) b row
left-same n b c row e = ap cost (tokens_after-same n b c row e)

-- writing a run in two parts saves no byte
pub left_cut : (m n b : ℕ) (row : List ℕ) → left (m + n) b row ≤ run_cost m + left n b row
left_cut m n b [] = omega (arith, left-nil (m + n) b, left-nil n b, run_cut m n)
left_cut m n b (c ∷ row) = grind (arith, left-same, left-other, run_cut, left_cut m (n + 1) b row)

-- with no sixel before it a row takes the same bytes, whatever that sixel is
left_any : (b c : ℕ) (row : List ℕ) → left 0 b row ≡ left 0 c row
left_any b c [] = omega (arith, left-nil 0 b, left-nil 0 c)
left_any b c (x ∷ row) = grind (arith, nat_tests, left-same, left-other)

-- equal sixels add to the run
left_run : (k n b : ℕ) (row : List ℕ) → left n b (replicate k b ++ row) ≡ left (n + k) b row
left_run zero n b row = ap (λ x. left x b row) (omega arith)
left_run (suc k) n b row = grind (arith, nat_tests, left-same, left_run k (n + 1) b row)

left_many : (n b : ℕ) (row : List ℕ) → left 0 0 (replicate n b ++ row) ≤ run_cost n + left 0 0 row
left_many n b row = grind (arith, nat_tests, left_any, left_run n 0 b row, left_cut n 0 b row)

-- the first token of a spelling takes no fewer bytes than it saves
left_token : (token : RunToken) (row : List ℕ) → IsRunToken token
    → left 0 0 (sixels token ++ row) ≤ length (spelling token) + left 0 0 row
unfolding sixels
left_token (One b) row is = omega (arith, left_many 1 b row)
left_token (Many n b) row is =
    grind (arith, nat_tests, length-decimal1, length-decimal5, length-append, left_many)

left_tokens : (tokens : List RunToken) → All IsRunToken tokens
    → left 0 0 (flat_map sixels tokens) ≤ cost tokens
left_tokens [] all = omega (arith, left-nil 0 0, run_cost0)
left_tokens (token ∷ tokens) all =
    let first = left_token token (flat_map sixels tokens) (All-head IsRunToken token tokens all) in
    let rest = left_tokens tokens (All-tail IsRunToken token tokens all) in
    omega (arith, first, rest, length-append (spelling token) (written tokens))

-- the tokens of a row are a shortest spelling of it
pub shortest : (row : List ℕ) → IsShortest (row_tokens row) row
shortest row = grind (arith, nat_tests, left_tokens)

-- ---- and they spell it

-- equal tokens of a count make a run
sixels-replicate : (n k b : ℕ) → flat_map sixels (replicate n (Many k b)) ≡ replicate (n * k) b
unfolding sixels
sixels-replicate zero k b = let product : 0 ≡ 0 * k = omega arith in ap (λ x. replicate x b) product
sixels-replicate (suc n) k b = grind (arith, replicate-append-replicate, sixels-replicate n k b)

sixels-singly : (n b : ℕ) → flat_map sixels (replicate n (One b)) ≡ replicate n b
unfolding sixels
sixels-singly zero b = refl
sixels-singly (suc n) b = ap (λ r. b ∷ r) (sixels-singly n b)

sixels-rest : (n b : ℕ) → flat_map sixels (rest_tokens n b) ≡ replicate n b
unfolding sixels
sixels-rest n b = grind (arith, nat_tests, append-nil, sixels-singly)

-- the tokens of a run spell it, whatever the greatest count
sixels-cut : (n k b : ℕ) → 0 < k
    → flat_map sixels (replicate (n / k) (Many k b) ++ rest_tokens (n % k) b) ≡ replicate n b
sixels-cut n k b h =
    let whole : (n / k) * k + n % k ≡ n = grind (arith, nat_tests) in
    grind (arith, flat_map-append, sixels-replicate, sixels-rest, replicate-append-replicate)

sixels-run : (n b : ℕ) → flat_map sixels (run_tokens n b) ≡ replicate n b
sixels-run n b = sixels-cut n repeat_limit b (omega arith)

pub sixels_after : (n b : ℕ) (row : List ℕ)
    → flat_map sixels (tokens_after n b row) ≡ replicate n b ++ row
sixels_after n b [] = sixels-run n b ∙ sym (append-nil (replicate n b))
sixels_after n b (c ∷ row) =
    let same = sixels_after (n + 1) b row in
    let other = sixels_after 1 c row in
    let more = replicate_more n b in
    let joined = append_assoc (replicate n b) (b ∷ []) row in
    let parts = flat_map-append sixels (run_tokens n b) (tokens_after 1 c row) in
    grind (arith, nat_tests, cases_eq c b, tokens_after-same, tokens_after-other, sixels-run)

All-run : (n b : ℕ) → All IsRunToken (run_tokens n b)
All-run n b = grind (arith, common_steps, nat_tests)

pub all_after : (n b : ℕ) (row : List ℕ) → All IsRunToken (tokens_after n b row)
all_after n b [] = All-run n b
all_after n b (c ∷ row) =
    let same = all_after (n + 1) b row in
    let other = All-append IsRunToken _ _ (All-run n b) (all_after 1 c row) in
    grind (arith, nat_tests, cases_eq c b, tokens_after-same, tokens_after-other)

-- the tokens of a row spell it
pub spells : (row : List ℕ) → Spells (row_tokens row) row
spells row = record { each = all_after 0 0 row; joined = sixels_after 0 0 row }

-- equal sixels add to the run
tokens_skip : (n : ℕ) (row : List ℕ) (at count bits : ℕ) → at + n ≤ length row
    → ((k : ℕ) → at ≤ k → k < at + n → get_or row k 0 ≡ bits)
    → tokens_after count bits (drop at row) ≡ tokens_after (count + n) bits (drop (at + n) row)
tokens_skip zero row at count bits l same = grind (arith, nat_tests)
tokens_skip (suc n) row at count bits l same =
    let a : at + suc n ≡ at + 1 + n = omega arith in
    let c : count + suc n ≡ count + 1 + n = omega arith in
    let one : at + 1 ≡ suc at = omega arith in
    let cut : drop at row ≡ get_or row at 0 ∷ drop (at + 1) row = grind (arith, one, drop-cons) in
    ap (tokens_after count bits) cut
    ∙ tokens_after-same count bits (get_or row at 0) (drop (at + 1) row)
    (same at (omega arith) (omega arith))
    ∙ rw (a, c) (grind (arith, nat_tests, tokens_skip n row (at + 1) (count + 1) bits))

-- a run ends where the row does, or another sixel follows
tokens_stop : (n b : ℕ) (row : List ℕ) → (0 < length row → get_or row 0 0 ≢ b)
    → tokens_after n b row ≡ run_tokens n b ++ row_tokens row
tokens_stop n b [] other = sym (append-nil (run_tokens n b))
tokens_stop n b (c ∷ row) other = grind (arith, nat_tests)

-- no sixel is before the first run
tokens_first : (b : ℕ) (row : List ℕ) → row_tokens (b ∷ row) ≡ tokens_after 0 b (b ∷ row)
tokens_first b row = grind (arith, nat_tests)

-- a row is written as its first run, and then as the row after it
pub tokens_run : (row : List ℕ) (at end bits : ℕ) → at < end → IsRun row at bits (end - at)
    → (end < length row → get_or row end 0 ≢ bits)
    → written (row_tokens (drop at row))
    ≡ written (run_tokens (end - at) bits) ++ written (row_tokens (drop end row))
tokens_run row at end bits some run other =
    let to : at + (end - at) ≡ end = omega arith in
    let one : at + 1 ≡ suc at = omega arith in
    let inside : at < length row = omega (arith, run.within) in
    let cut : drop at row ≡ get_or row at 0 ∷ drop (at + 1) row = grind (arith, one, drop-cons) in
    let first : get_or row at 0 ≡ bits = run.same at (omega arith) (omega arith) in
    let skip = rw to at (tokens_skip (end - at) row at 0 bits run.within run.same) in
    let stop = tokens_stop (end - at) bits (drop end row)
    (grind (arith, nat_tests, length-drop, get_or-drop)) in
    let parts = flat_map-append spelling (run_tokens (end - at) bits) (row_tokens (drop end row)) in
    grind (arith, nat_tests, tokens_first)

-- a run of more than three sixels begins with a repeat
tokens_cut : (n k b : ℕ) → 0 < k → k ≤ n
    → replicate (n / k) (Many k b) ++ rest_tokens (n % k) b
    ≡ Many k b ∷ replicate ((n - k) / k) (Many k b) ++ rest_tokens ((n - k) % k) b
tokens_cut n k b some l =
    let more : n / k ≡ suc ((n - k) / k) = omega (arith, div-eq-sub-div some l) in
    rw (more, mod-eq-sub-mod l) refl

pub tokens_repeat : (n repeat b : ℕ) → 3 < n → repeat ≡ min n repeat_limit
    → run_tokens n b ≡ Many repeat b ∷ run_tokens (n - repeat) b
tokens_repeat n repeat b many is = elim (cases_lt n repeat_limit) [
  | inl few ↦ grind (arith, nat_tests)
  | inr all ↦
      let e : repeat ≡ repeat_limit = omega arith in
      rw e (tokens_cut n repeat_limit b (omega arith) all)
]

-- what a row is written as: it spells the row in the fewest bytes
pub ruleset row_rules = (shortest, all_after, sixels_after)
