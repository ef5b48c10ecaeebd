-- How the distance to the nearest entry changes with the entries.
use Rattle.std.proofs.Common.{◌≡◌, ℕ, zero, suc, ◌<◌, ◌≤◌, min, List, [], ◌∷◌, ◌++◌, length, get_or}
use Rattle.std.proofs.{Common.{take, refl, ⊎_elim, arith}, lemmas.Bool.cases_lt}
use Rattle.sixel_palette.specs.Palette.{distance, nearest, no_entry}

-- with no entry it is above every distance of byte colors
pub nearest-nil : (c : List ℕ) → nearest [] c ≡ no_entry
unfolding nearest
nearest-nil c = refl

-- one more entry
pub nearest-push : (ps : List (List ℕ)) (q c : List ℕ)
    → nearest (ps ++ q ∷ []) c ≡ min (nearest ps c) (distance q c)
unfolding nearest
nearest-push [] q c = omega arith
nearest-push (p ∷ ps) q c = omega (arith, nearest-push ps q c)

-- no entry is nearer
pub nearest-le : (ps : List (List ℕ)) (c : List ℕ) (i : ℕ) (d : List ℕ) → i < length ps
    → nearest ps c ≤ distance (get_or ps i d) c
unfolding nearest
nearest-le [] c i d l = absurd (omega arith)
nearest-le (p ∷ ps) c zero d l = omega arith
nearest-le (p ∷ ps) c (suc i) d l = omega (arith, nearest-le ps c i d (omega arith))

-- it is at most that of no entry
pub nearest-cap : (ps : List (List ℕ)) (c : List ℕ) → nearest ps c ≤ no_entry
unfolding nearest
nearest-cap [] c = omega arith
nearest-cap (p ∷ ps) c = omega (arith, nearest-cap ps c)

-- the first entries are no nearer than all
pub nearest-take : (ps : List (List ℕ)) (i : ℕ) (c : List ℕ) → nearest ps c ≤ nearest (take i ps) c
unfolding nearest
nearest-take [] zero c = omega arith
nearest-take [] (suc i) c = omega arith
nearest-take (p ∷ ps) zero c = omega (arith, nearest-cap ps c)
nearest-take (p ∷ ps) (suc i) c = omega (arith, nearest-take ps i c)

-- more entries are no farther
pub nearest-append : (ps qs : List (List ℕ)) (c : List ℕ) → nearest (ps ++ qs) c ≤ nearest ps c
unfolding nearest
nearest-append [] qs c = nearest-cap qs c
nearest-append (p ∷ ps) qs c = omega (arith, nearest-append ps qs c)

-- some entry is at the distance of the nearest one
pub nearest-reached : (ps : List (List ℕ)) (c d : List ℕ) → nearest ps c < no_entry
    → (i : ℕ) × (i < length ps) × (distance (get_or ps i d) c ≡ nearest ps c)
unfolding nearest
nearest-reached [] c d l = absurd (omega arith)
nearest-reached (p ∷ ps) c d l =
    ⊎_elim (λ h.
    let r = nearest-reached ps c d (omega arith) in
    (suc r.0, omega (arith, r.1), omega (arith, r.2)))
    (λ h. (0, omega arith, omega arith)) (cases_lt (nearest ps c) (distance p c))
