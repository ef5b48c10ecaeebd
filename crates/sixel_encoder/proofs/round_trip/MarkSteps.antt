-- Marks made step by step: each step may count on what the steps before it established.
use Rattle.std.proofs.Common.{List, arith, refl, suc, zero, ℕ, ◌++◌, ◌+◌, ◌<◌, ◌∷◌, ◌≡◌, []}
use Rattle.std.{proofs.lemmas.Bool.Decides.nat_tests, specs.Prelude.Option}
use Rattle.sixel_base.specs.Picture.{joined}
use Rattle.sixel_encoder.specs.Marks.{AreAllowed, Mark, Pen, covered, moved, moved_by, painted}
use Rattle.sixel_encoder.specs.Text.{Drawing}

-- the register that each pixel is drawn in, by column and line
abbrev pub Places : Type 0
Places = ℕ → ℕ → Option ℕ

-- the registers of all pixels after a mark
abbrev covered_all : Pen → Mark → Places → Places
covered_all pen mark place column line = covered pen mark (place column line) column line

-- the registers of all pixels after all marks
abbrev pub painted_all : List Mark → Pen → Places → Places
painted_all [] pen place = place
painted_all (mark ∷ marks) pen place =
    painted_all marks (moved pen mark) (covered_all pen mark place)

-- each of them is the register that the pixel is drawn in
pub painted-place : (marks : List Mark) (pen : Pen) (place : Places) (column line : ℕ)
    → painted marks pen (place column line) column line ≡ painted_all marks pen place column line
painted-place [] pen place column line = refl
painted-place (mark ∷ marks) pen place column line =
    painted-place marks (moved pen mark) (covered_all pen mark place) column line

-- the registers of all pixels after some marks, and then more
painted_all-append : (a b : List Mark) (pen : Pen) (place : Places)
    → painted_all (a ++ b) pen place ≡ painted_all b (moved_by a pen) (painted_all a pen place)
painted_all-append [] b pen place = refl
painted_all-append (mark ∷ a) b pen place =
    painted_all-append a b (moved pen mark) (covered_all pen mark place)

-- the pen after some marks, and then more
pub moved_by-append : (a b : List Mark) (pen : Pen)
    → moved_by (a ++ b) pen ≡ moved_by b (moved_by a pen)
moved_by-append [] b pen = refl
moved_by-append (mark ∷ a) b pen = moved_by-append a b (moved pen mark)

-- marks that are allowed, and then more
AreAllowed-append : (drawing : Drawing) (a b : List Mark) (pen : Pen) → AreAllowed drawing pen a
    → AreAllowed drawing (moved_by a pen) b → AreAllowed drawing pen (a ++ b)
AreAllowed-append drawing [] b pen first then = then
AreAllowed-append drawing (mark ∷ a) b pen first then =
    grind (arith, nat_tests, AreAllowed-append drawing a b (moved pen mark) first.1 then)

-- the marks are allowed from here, and lead to a state
pub record Leads (drawing : Drawing) (Q : Pen → Places → Type 0) (pen : Pen) (place : Places)
    (marks : List Mark) : Type 0 where
  pub allowed : AreAllowed drawing pen marks
  pub state : Q (moved_by marks pen) (painted_all marks pen place)

-- one list of marks leads to a state, and the next on from it
pub Leads-append :
    (drawing : Drawing) (Q R : Pen → Places → Type 0) (pen : Pen) (place : Places) (a b : List Mark)
    → Leads drawing Q pen place a → Leads drawing R (moved_by a pen) (painted_all a pen place) b
    → Leads drawing R pen place (a ++ b)
Leads-append drawing Q R pen place a b first then =
    grind (arith, nat_tests, AreAllowed-append, moved_by-append, painted_all-append)

-- what each step hands on holds after the last
pub Leads-joined :
    (drawing : Drawing) (P : ℕ → Pen → Places → Type 0) (step : ℕ → List Mark) (n : ℕ)
    → ((k : ℕ) (pen : Pen) (place : Places) → k < n → P k pen place
    → Leads drawing (P (k + 1)) pen place (step k)) → (pen : Pen) (place : Places) → P 0 pen place
    → Leads drawing (P n) pen place (joined step n)
unfolding joined
Leads-joined drawing P step zero keep pen place is = record { allowed = tt; state = is }
Leads-joined drawing P step (suc n) keep pen place is =
    let e : n + 1 ≡ suc n = omega arith in
    let first = Leads-joined drawing P step n (λ k p d l. keep k p d (omega arith)) pen place is in
    Leads-append _ _ _ _ _ _ _ first (rw e at (keep n _ _ (omega arith) first.state))
