-- Registers that are set one after the other.
use Rattle.std.proofs.Common.{◌≡◌, ℕ, ◌+◌, ◌<◌, ◌≤◌, List, [], ◌∷◌, length, get_or, set, drop, refl}
use Rattle.std.proofs.{Common.ap, Common.◌∙◌, Common.◌⊎◌, Common.arith, lemmas.List.drop_all}
use Rattle.std.proofs.{Math.Seq.drop-cons, Math.Seq.set_out, lemmas.Bool.Decides.nat_tests}
use Rattle.icy_sixel.specs.Registers.{with_colors}

-- colors after the last register have no effect
pub with_colors-past : (registers : List (List ℕ)) (first : ℕ) (colors : List (List ℕ))
    → length registers ≤ first → with_colors registers first colors ≡ registers
unfolding with_colors
with_colors-past registers first [] past = refl
with_colors-past registers first (color ∷ colors) past =
    ap (λ changed. with_colors changed (first + 1) colors) (set_out registers first color past)
    ∙ with_colors-past registers (first + 1) colors (omega arith)

-- the color at a place, and then those after it
pub with_colors-next : (registers : List (List ℕ)) (first place at : ℕ) (colors : List (List ℕ))
    → at ≡ first + place → place < length colors
    → with_colors registers (first + place) (drop place colors)
    ≡ with_colors (set registers at (get_or colors place [])) (first + (place + 1))
    (drop (place + 1) colors)
unfolding with_colors
with_colors-next registers first place at colors there inside = grind (arith, nat_tests, drop-cons)

-- nothing is left to set after as many colors as there are, or as there are registers
pub with_colors-done : (registers : List (List ℕ)) (first place : ℕ) (colors : List (List ℕ))
    → (length registers ≤ first + place) ⊎ (length colors ≤ place)
    → with_colors registers (first + place) (drop place colors) ≡ registers
unfolding with_colors
with_colors-done registers first place colors h = grind (arith, with_colors-past, drop_all)
