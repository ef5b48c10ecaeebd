-- How many witnesses a palette has.
use Rattle.std.proofs.Common.{◌≡◌, ℕ, ◌+◌, ◌≤◌, List, [], ◌∷◌, length, ap, arith, inl, inr}
use Rattle.std.{proofs.Common.length-append, proofs.lemmas.Bool.cases_lt, specs.Prelude.min}
use Rattle.sixel_palette.specs.Palette.{IsShown, IsPalette, AreWitnesses, palette_room}

-- at most one more than the bound of its entries
pub length-witnesses : (pixels : List ℕ) (max_colors : ℕ) (entries witnesses : List (List ℕ))
    → IsPalette pixels max_colors entries → AreWitnesses (IsShown pixels) entries witnesses
    → length witnesses ≤ palette_room max_colors + 1
length-witnesses pixels max_colors entries witnesses palette are =
    let n : ℕ = palette.size.0 in
    let long : length entries ≡ min (palette_room max_colors) n = palette.size.2 in
    elim (cases_lt (length entries) n) [
      | inl more ↦
          let some = are.some n palette.size.1 more in
          omega (arith, ap length some.2, length-append entries (some.0 ∷ []), long)
      | inr all ↦ omega (arith, ap length (are.none n palette.size.1 all))
    ]

-- and no more entries than their bound
pub length-entries : (pixels : List ℕ) (max_colors : ℕ) (entries : List (List ℕ))
    → IsPalette pixels max_colors entries → length entries ≤ palette_room max_colors
length-entries pixels max_colors entries palette = omega (arith, palette.size.2)
