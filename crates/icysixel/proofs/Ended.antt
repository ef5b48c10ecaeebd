-- A text that is written into a buffer with a zero after it.
use Rattle.std.proofs.Common.{◌≡◌, ℕ, ◌+◌, ◌-◌, ◌<◌, List, ◌∷◌, ◌++◌, length, set, drop}
use Rattle.std.proofs.Common.{length-drop, refl, ap, ◌∙◌, arith}
use Rattle.std.proofs.lemmas.List.{set-append_right, set_split}
use lib.Seq.{drop-drop}

-- a zero at the start of a buffer
pub zero_first : (buffer : List ℕ) → 0 < length buffer → set buffer 0 0 ≡ 0 ∷ drop 1 buffer
zero_first buffer some = set_split buffer 0 0 some

-- and after a text
pub zero_after : (text buffer : List ℕ) → length text < length buffer
    → set (text ++ drop (length text) buffer) (length text) 0
    ≡ text ++ 0 ∷ drop (length text + 1) buffer
zero_after text buffer fits =
    let rest : 0 < length (drop (length text) buffer) =
    omega (arith, length-drop (length text) buffer) in
    let start : length text - length text ≡ 0 = omega arith in
    set-append_right text (drop (length text) buffer) (length text) (length text) 0 refl
    (omega arith)
    ∙ (ap (λ place. text ++ set (drop (length text) buffer) place 0) start
    ∙ (ap (λ end. text ++ end) (set_split (drop (length text) buffer) 0 0 rest)
    ∙ ap (λ end. text ++ 0 ∷ end) (drop-drop 1 (length text) buffer)))
