-- What is joined of a function's lists: one list more, some more, empty ones, and that it depends
-- on no list past the end.
use Rattle.std.proofs.Common.{◌≡◌, ℕ, zero, suc, ◌+◌, ◌<◌, ◌≤◌, List, ◌++◌, append_assoc, refl, ap}
use Rattle.std.{proofs.Common.{sym, ◌∙◌, inl, inr, arith, []}, proofs.lemmas.Bool.cases_lt}
use Rattle.std.{proofs.lemmas.Bool.Decides.nat_tests, proofs.lemmas.Grind.flat_map-append}
use Rattle.std.{proofs.lemmas.List.append-nil, specs.Prelude.flat_map}
use Rattle.sixel_base.specs.Picture.{joined}

pub joined-none : {A : Type 0} (f : ℕ → List A) → joined f 0 ≡ []
unfolding joined
joined-none f = refl

pub joined-more : {A : Type 0} (f : ℕ → List A) (n : ℕ) → joined f (n + 1) ≡ joined f n ++ f n
unfolding joined
joined-more f n = let e : n + 1 ≡ suc n = omega arith in ap (λ x. joined f x) e

pub joined-same : {A : Type 0} (f g : ℕ → List A) (n : ℕ) → ((k : ℕ) → k < n → f k ≡ g k)
    → joined f n ≡ joined g n
unfolding joined
joined-same f g zero h = refl
joined-same f g (suc n) h = grind (arith, nat_tests, joined-same f g n (λ k l. h k (omega arith)))

-- the first n lists, and then m more
pub joined-add : {A : Type 0} (f : ℕ → List A) (n m : ℕ)
    → joined f (n + m) ≡ joined f n ++ joined (λ k. f (n + k)) m
unfolding joined
joined-add f n zero = grind (arith, nat_tests, append-nil)
joined-add f n (suc m) =
    let e : n + suc m ≡ suc (n + m) = omega arith in
    ap (λ x. joined f x) e
    ∙ (grind (arith, nat_tests, append_assoc, joined-add f n m))

-- empty lists add nothing
pub joined-past : {A : Type 0} (f : ℕ → List A) (n m : ℕ) → n ≤ m → ((k : ℕ) → n ≤ k → f k ≡ [])
    → joined f m ≡ joined f n
unfolding joined
joined-past f n zero l none = let e : n ≡ zero = omega arith in ap (λ x. joined f x) (sym e)
joined-past f n (suc m) l none =
    elim (cases_lt m n) [
      | inl below ↦ let e : suc m ≡ n = omega arith in ap (λ x. joined f x) e
      | inr above ↦ grind (arith, nat_tests, append-nil, joined-past f n m above none)
    ]

-- what each list becomes, joined
pub flat_map-joined : {X A : Type 0} (f : X → List A) (step : ℕ → List X) (text : ℕ → List A)
    → ((k : ℕ) → flat_map f (step k) ≡ text k) → (n : ℕ)
    → flat_map f (joined step n) ≡ joined text n
unfolding joined
flat_map-joined f step text each zero = refl
flat_map-joined f step text each (suc n) =
    grind (arith, nat_tests, flat_map-append, flat_map-joined f step text each n)
