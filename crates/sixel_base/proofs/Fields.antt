-- How the fields of a text change as the text goes on by a digit or a semicolon.
use Rattle.std.proofs.Common.{◌≡◌, ◌≢◌, ℕ, zero, suc, ◌+◌, ◌-◌, ◌*◌, ◌<◌, ◌≤◌, min, max, Bool, true}
use Rattle.std.proofs.Common.{false, cond, ◌==◌, List, [], ◌∷◌, ◌++◌, map, length, get_or, refl}
use Rattle.std.proofs.{Common.{arith, rules, tests, length-append}, lemmas.Bool.Decides.nat_tests}
use Rattle.std.proofs.{lemmas.Grind.common_steps, lemmas.Int.Digits.digits_value_push}
use Rattle.std.proofs.{lemmas.List.{map-append, length-map}, lemmas.List.Splits.length-slice_split}
use Rattle.std.specs.{Char.digit_value, List.{slice_split, onto_first}}
use Rattle.sixel_base.specs.{Fields.{fields, field, parameter}, Limits.parameter_limit}

-- the pieces, of which the last goes on by an element
abbrev pub onto_last : ℕ → List (List ℕ) → List (List ℕ)
onto_last x [] = (x ∷ []) ∷ []
onto_last x (p ∷ []) = (p ++ x ∷ []) ∷ []
onto_last x (p ∷ q ∷ ps) = p ∷ onto_last x (q ∷ ps)

-- the numbers, of which the last is changed
abbrev pub on_last : (ℕ → ℕ) → List ℕ → List ℕ
on_last f [] = f 0 ∷ []
on_last f (n ∷ []) = f n ∷ []
on_last f (n ∷ m ∷ ns) = n ∷ on_last f (m ∷ ns)

-- a value and a digit more
abbrev pub raised : ℕ → ℕ → ℕ
raised byte n = min (n * 10 + (byte - 48)) parameter_limit

-- one element in front of a text whose last piece goes on
split_step : (b : Bool) (x y : ℕ) (ps : List (List ℕ)) → 0 < length ps
    → cond b ([] ∷ onto_last x ps) (onto_first y (onto_last x ps))
    ≡ onto_last x (cond b ([] ∷ ps) (onto_first y ps))
split_step b x y ps some = grind (arith, nat_tests)

-- an element that does not separate goes onto the last piece
slice_split-push_no : (p : ℕ → Bool) (xs : List ℕ) (x : ℕ) → p x ≡ false
    → slice_split p (xs ++ x ∷ []) ≡ onto_last x (slice_split p xs)
slice_split-push_no p [] x fails = rw fails refl
slice_split-push_no p (y ∷ ys) x fails =
    grind (arith, nat_tests, split_step, length-slice_split, slice_split-push_no p ys x fails)

-- one element in front of a text that ends in an empty piece
split_next : (b : Bool) (y : ℕ) (ps : List (List ℕ)) → 0 < length ps → cond b ([] ∷ (ps ++ [] ∷ []))
    (onto_first y (ps ++ [] ∷ [])) ≡ cond b ([] ∷ ps) (onto_first y ps) ++ [] ∷ []
split_next b y ps some = grind (arith, common_steps, nat_tests)

-- an element that separates begins a piece
slice_split-push_yes : (p : ℕ → Bool) (xs : List ℕ) (x : ℕ) → p x ≡ true
    → slice_split p (xs ++ x ∷ []) ≡ slice_split p xs ++ [] ∷ []
slice_split-push_yes p [] x passes = rw passes refl
slice_split-push_yes p (y ∷ ys) x passes =
    grind (arith, nat_tests, split_next, length-slice_split, slice_split-push_yes p ys x passes)

-- the value of a digit's byte
digit_value-byte : (byte : ℕ) → 48 ≤ byte → byte ≤ 57 → digit_value byte ≡ byte - 48
digit_value-byte byte low high = search (rules, tests)

-- the value of a piece that goes on by a digit
parameter-push : (piece : List ℕ) (byte : ℕ) → 48 ≤ byte → byte ≤ 57
    → parameter (piece ++ byte ∷ []) ≡ raised byte (parameter piece)
parameter-push piece byte low high = grind (arith, nat_tests, digits_value_push, digit_value-byte)

-- the values of the pieces, of which the last goes on by an element
map-onto_last : (g : List ℕ → ℕ) (f : ℕ → ℕ) (x : ℕ) → ((p : List ℕ) → g (p ++ x ∷ []) ≡ f (g p))
    → (ps : List (List ℕ)) → 0 < length ps → map g (onto_last x ps) ≡ on_last f (map g ps)
map-onto_last g f x step [] some = absurd (omega arith)
map-onto_last g f x step (p ∷ []) some = rw (step p) refl
map-onto_last g f x step (p ∷ q ∷ ps) some =
    rw (map-onto_last g f x step (q ∷ ps) (omega arith)) refl

pub length-on_last : (f : ℕ → ℕ) (ns : List ℕ) → length (on_last f ns) ≡ max 1 (length ns)
length-on_last f [] = refl
length-on_last f (n ∷ []) = refl
length-on_last f (n ∷ m ∷ ns) = let rest = length-on_last f (m ∷ ns) in omega arith

-- the last number is changed
pub get_or-on_last_same : (f : ℕ → ℕ) (ns : List ℕ) (k : ℕ) → k + 1 ≡ max 1 (length ns)
    → get_or (on_last f ns) k 0 ≡ f (get_or ns k 0)
get_or-on_last_same f [] zero at = refl
get_or-on_last_same f [] (suc k) at = absurd (omega arith)
get_or-on_last_same f (n ∷ []) zero at = refl
get_or-on_last_same f (n ∷ []) (suc k) at = absurd (omega arith)
get_or-on_last_same f (n ∷ m ∷ ns) zero at = absurd (omega arith)
get_or-on_last_same f (n ∷ m ∷ ns) (suc k) at = get_or-on_last_same f (m ∷ ns) k (omega arith)

-- the others stay
pub get_or-on_last_other : (f : ℕ → ℕ) (ns : List ℕ) (k : ℕ) → k + 1 ≢ max 1 (length ns)
    → get_or (on_last f ns) k 0 ≡ get_or ns k 0
get_or-on_last_other f [] zero other = absurd (omega arith)
get_or-on_last_other f [] (suc k) other = refl
get_or-on_last_other f (n ∷ []) zero other = absurd (omega arith)
get_or-on_last_other f (n ∷ []) (suc k) other = refl
get_or-on_last_other f (n ∷ m ∷ ns) zero other = refl
get_or-on_last_other f (n ∷ m ∷ ns) (suc k) other = get_or-on_last_other f (m ∷ ns) k (omega arith)

-- a digit is no semicolon
digit-no_separator : (byte : ℕ) → byte ≤ 57 → byte == 59 ≡ false
digit-no_separator byte high = search (rules, tests)

-- the fields of a text that goes on by a digit
pub fields-push_digit : (text : List ℕ) (byte : ℕ) → 48 ≤ byte → byte ≤ 57
    → fields (text ++ byte ∷ []) ≡ on_last (raised byte) (fields text)
fields-push_digit [] byte low high = grind (arith, nat_tests)
fields-push_digit (x ∷ xs) byte low high =
    let separates : ℕ → Bool = λ b. b == 59 in
    let some = length-slice_split separates (x ∷ xs) in
    rw (slice_split-push_no separates (x ∷ xs) byte (digit-no_separator byte high))
    (map-onto_last parameter (raised byte) byte (λ p. parameter-push p byte low high)
    (slice_split separates (x ∷ xs)) (omega arith))

-- the fields of a text that goes on by a semicolon
fields-push_separator : (x : ℕ) (xs : List ℕ)
    → fields ((x ∷ xs) ++ 59 ∷ []) ≡ fields (x ∷ xs) ++ 0 ∷ []
fields-push_separator x xs =
    rw (slice_split-push_yes (λ b. b == 59) (x ∷ xs) 59 refl, map-append) refl

-- a text with a byte has a field
length-fields-some : (x : ℕ) (xs : List ℕ) → 0 < length (fields (x ∷ xs))
length-fields-some x xs = grind (arith, nat_tests, length-map, length-slice_split)

-- a semicolon begins a field, and the first one follows an empty field
pub length-fields-push_separator : (text : List ℕ)
    → length (fields (text ++ 59 ∷ [])) ≡ max 1 (length (fields text)) + 1
length-fields-push_separator text =
    grind (arith, nat_tests, length-append, fields-push_separator, length-fields-some)

-- a 0 more at the end is read as the default was
get_or-push_zero : (ns : List ℕ) (k : ℕ) → get_or (ns ++ 0 ∷ []) k 0 ≡ get_or ns k 0
get_or-push_zero ns k = grind (arith, common_steps, nat_tests)

-- a field that a semicolon begins is 0, as is one that is not there
pub field-push_separator : (text : List ℕ) (k : ℕ) → field (text ++ 59 ∷ []) k ≡ field text k
field-push_separator text k = grind (arith, nat_tests, fields-push_separator, get_or-push_zero)
