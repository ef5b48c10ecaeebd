-- The bytes of a picture: its pixels, joined row by row.
use Rattle.std.proofs.Common.{◌≡◌, ℕ, zero, suc, ◌+◌, ◌*◌, ◌<◌, List, ◌++◌, length, refl, sym, ap}
use Rattle.std.proofs.Common.{◌∙◌, append_assoc, append-nil, length-append, add-zero, add-suc}
use Rattle.std.proofs.{Common.{arith, get_or}, Math.Nat.mul_comm, lemmas.Bool.cases_lt}
use Rattle.std.proofs.{lemmas.Bool.Decides.nat_tests, lemmas.List.get_or_append_left}
use Rattle.std.proofs.{lemmas.List.get_or-append-add, lemmas.Nat.mul-add-lt}
use Rattle.sixel_base.specs.Picture.{joined}

-- one more piece at the front
pub joined-front : (f : ℕ → List ℕ) (n : ℕ) → joined f (suc n) ≡ f 0 ++ joined (λ k. f (suc k)) n
unfolding joined
joined-front f zero = sym (append-nil (f 0))
joined-front f (suc n) = grind (arith, nat_tests, append_assoc, joined-front f n)

-- pieces that are equal one by one
pub joined-same : (f g : ℕ → List ℕ) (n : ℕ) → ((k : ℕ) → k < n → f k ≡ g k)
    → joined f n ≡ joined g n
unfolding joined
joined-same f g zero same = refl
joined-same f g (suc n) same =
    let front = joined-same f g n (λ k h. same k (omega arith)) in
    let last = same n (omega arith) in
    cc

-- the pieces in two parts
pub joined-add : (f : ℕ → List ℕ) (n m : ℕ)
    → joined f (n + m) ≡ joined f n ++ joined (λ k. f (n + k)) m
unfolding joined
joined-add f n zero = rw add-zero (sym (append-nil (joined f n)))
joined-add f n (suc m) =
    rw add-suc (ap (λ xs. xs ++ f (n + m)) (joined-add f n m)
    ∙ append_assoc (joined f n) (joined (λ k. f (n + k)) m) (f (n + m)))

-- equally long pieces
pub length-joined : (f : ℕ → List ℕ) (size n : ℕ) → ((k : ℕ) → length (f k) ≡ size)
    → length (joined f n) ≡ size * n
unfolding joined
length-joined f size zero long = omega arith
length-joined f size (suc n) long = grind (arith, length-append, length-joined f size n long)

-- parts of one length
pub length-joined_below : (f : ℕ → List ℕ) (size n : ℕ) → ((k : ℕ) → k < n → length (f k) ≡ size)
    → length (joined f n) ≡ n * size
unfolding joined
length-joined_below f size zero long = omega arith
length-joined_below f size (suc n) long =
    grind (arith, length-append, length-joined_below f size n (λ k l. long k (omega arith)))

-- an element of one of them
pub get_or-joined : (f : ℕ → List ℕ) (size n k i : ℕ) → ((j : ℕ) → j < n → length (f j) ≡ size)
    → k < n → i < size → get_or (joined f n) (k * size + i) 0 ≡ get_or (f k) i 0
unfolding joined
get_or-joined f size zero k i long lk li = absurd (omega arith)
get_or-joined f size (suc n) k i long lk li =
    let front = length-joined_below f size n (λ j l. long j (omega arith)) in
    let rest = get_or-joined f size n k i (λ j l. long j (omega arith)) in
    let inside = mul-add-lt k size i n in
    grind (arith, nat_tests, cases_lt k n, get_or_append_left, get_or-append-add, mul_comm)
