-- That an image has one refined palette: it follows from the opaque colors and their numbers.
use Rattle.std.proofs.Common.{◌≡◌, ℕ, suc, ◌<◌, ◌≤◌, List, [], ◌∷◌, ◌++◌, length, get_or, map, take}
use Rattle.std.proofs.Common.{refl, ap, sym, ⊎_elim, ◌∙◌, arith}
use Rattle.std.specs.List.{All, AllPairs, Contains}
use Rattle.std.proofs.lemmas.{Bool.cases_lt, Bool.Decides.nat_tests, List.length-append}
use Rattle.std.proofs.lemmas.{List.{length-map, take_all}, List.Elements.All-tail}
use Rattle.sixel_palette.specs.{GainCut.bin_step, Palette.{AreMembers, IsShown, rank}}
use Rattle.sixel_palette.specs.Refined.{AreOnTop, IsRefined, base_entries, cut_entries, opaque_bins}
use Rattle.sixel_palette.specs.Refined.{opaque_pixels, register_color}
use Rattle.sixel_palette.specs.declared.palette.refined.RefinedPalette.{RefinedPalette}
use Rattle.sixel_palette.proofs.traversal.{Apart.AllPairs-tail, Choices.IsColor-shown}
use Rattle.sixel_palette.proofs.traversal.{Law.byte-get_or, Order.{members_alike, order-take}}
use Rattle.sixel_palette.proofs.colors.Colors.{IsColor, same_from_rank}
use Rattle.sixel_palette.proofs.refinement.Tops.{tops_alike}

-- ---- the members of a set, in order

abbrev Ascending : List (List ℕ) → Type 0
Ascending colors = AllPairs (λ a b. rank a < rank b) colors

abbrev Within : List (List ℕ) → List (List ℕ) → Type 0
Within xs ys = (k : ℕ) (d : List ℕ) → k < length xs → Contains ys (get_or xs k d)

head-le : (y : List ℕ) (ys : List (List ℕ)) (x : List ℕ) → Ascending (y ∷ ys) → Contains (y ∷ ys) x
    → rank y ≤ rank x
head-le y ys x up h = grind (arith, nat_tests, up 0 h.0 x)

tail-contains : (y : List ℕ) (ys : List (List ℕ)) (z : List ℕ) → rank y < rank z → (p : ℕ)
    → p < length (y ∷ ys) → get_or (y ∷ ys) p z ≡ z → Contains ys z
tail-contains y ys z less p l e = grind (arith, nat_tests)

same_sets : (xs ys : List (List ℕ)) → Ascending xs → Ascending ys → Within xs ys → Within ys xs
    → All IsColor xs → All IsColor ys → xs ≡ ys
same_sets [] [] up down to from colors others = refl
same_sets [] (y ∷ ys) up down to from colors others =
    absurd (omega (arith, (from 0 y (omega arith)).1))
same_sets (x ∷ xs) [] up down to from colors others =
    absurd (omega (arith, (to 0 x (omega arith)).1))
same_sets (x ∷ xs) (y ∷ ys) up down to from colors others =
    let one = head-le y ys x down (to 0 x (omega arith)) in
    let two = head-le x xs y up (from 0 y (omega arith)) in
    let same : rank x ≡ rank y = omega (arith, one, two) in
    let head = same_from_rank x y (colors 0 x (omega arith)) (others 0 y (omega arith)) same in
    let rest =
    same_sets xs ys (AllPairs-tail (λ a b. rank a < rank b) x xs up)
    (AllPairs-tail (λ a b. rank a < rank b) y ys down)
    (λ k d l. grind (arith, nat_tests, to (suc k) d, up 0 (suc k) d, tail-contains y ys))
    (λ k d l. grind (arith, nat_tests, from (suc k) d, down 0 (suc k) d, tail-contains x xs))
    (All-tail IsColor x xs colors) (All-tail IsColor y ys others) in
    λ i. head i ∷ rest i

members_same : (M : List ℕ → Type 0) → ((c : List ℕ) → M c → IsColor c) → (xs ys : List (List ℕ))
    → AreMembers M xs → AreMembers M ys → xs ≡ ys
members_same h color xs ys f g = grind (arith, nat_tests, same_sets)

-- ---- entries on top

-- the colors agree as far as both go
tops-take : (M : List ℕ → Type 0) → ((c : List ℕ) → M c → IsColor c) → (max_colors : ℕ)
    → (base entries others witnesses more : List (List ℕ))
    → (f : AreOnTop M max_colors base entries witnesses)
    → (g : AreOnTop M max_colors base others more)
    → (n : ℕ) → n ≤ length f.tops → n ≤ length g.tops → take n f.tops ≡ take n g.tops
tops-take M color max_colors base entries others witnesses more f g =
    order-take M color (λ tops. base ++ map register_color tops) f.tops g.tops
    (λ i d l. (f.order i d l).farthest) (λ i d l. (g.order i d l).farthest)

-- neither list is longer
tops-le : (M : List ℕ → Type 0) → ((c : List ℕ) → M c → IsColor c) → (max_colors : ℕ)
    → (base entries others witnesses more : List (List ℕ))
    → (f : AreOnTop M max_colors base entries witnesses)
    → (g : AreOnTop M max_colors base others more) → length others ≤ max_colors
    → length g.tops ≤ length f.tops
tops-le M color max_colors base entries others witnesses more f g few =
    let n = length f.tops in
    let front : n < length g.tops → take n g.tops ≡ f.tops = λ longer.
    sym (tops-take M color max_colors base _ _ _ _ f g n (omega arith) (omega arith))
    ∙ take_all n f.tops (omega arith) in
    let off =
    λ (longer : n < length g.tops). rw (front longer, ← f.whole) at (g.order n [] longer) in
    grind (arith, nat_tests, f.whole, g.whole, f.full, length-append, length-map)

tops_same : (M : List ℕ → Type 0) → ((c : List ℕ) → M c → IsColor c) → (max_colors : ℕ)
    → (base entries others witnesses more : List (List ℕ))
    → AreOnTop M max_colors base entries witnesses → AreOnTop M max_colors base others more
    → length entries ≤ max_colors → length others ≤ max_colors → entries ≡ others
tops_same M color max_colors base entries others witnesses more f g few small =
    let up = tops-le M color max_colors base entries others witnesses more f g small in
    let down = tops-le M color max_colors base _ _ more witnesses g f few in
    let front = tops-take M color max_colors base _ _ _ _ f g (length f.tops) in
    grind (arith, nat_tests, f.whole, g.whole, take_all)

-- ---- the refined palette

-- images of the same opaque colors, of as many pixels each, have the same entries
pub refined_same : (p q : List ℕ) (max_colors : ℕ) (x y : RefinedPalette) → All (λ b. b < 256) p
    → ((c : List ℕ) → IsShown p c → IsShown q c) → ((c : List ℕ) → IsShown q c → IsShown p c)
    → ((number : List ℕ → ℕ) → opaque_pixels p number ≡ opaque_pixels q number)
    → IsRefined p max_colors x → IsRefined q max_colors y
    → (x.initial.items ≡ y.initial.items) × (x.colors.items ≡ y.colors.items)
refined_same p q max_colors x y bytes to from same f g =
    let color : (c : List ℕ) → IsShown p c → IsColor c = λ c m.
    IsColor-shown p c (byte-get_or p bytes) m in
    let members : f.members ≡ g.members =
    members_same (IsShown p) color f.members g.members f.are
    (members_alike (IsShown q) (IsShown p) from to g.members g.are) in
    let pixels : opaque_bins p (length f.members) ≡ opaque_bins q (length g.members) = λ i.
    record { sum = λ number. same number i; step = bin_step (length (members i)) } in
    ⊎_elim (λ (many : max_colors < length f.members).
    let mine = f.cut many in
    let yours = g.cut (omega (arith, many, ap length members)) in
    let top =
    tops_alike (IsShown q) (IsShown p) from to max_colors g.base y.colors.items y.witnesses.items
    g.top in
    let base : f.base ≡ g.base =
    mine.1 ∙ (ap (λ s. base_entries s max_colors) pixels ∙ sym yours.1) in (
      mine.0 ∙ (ap (λ s. cut_entries s max_colors) pixels ∙ sym yours.0),
      tops_same (IsShown p) color max_colors f.base x.colors.items y.colors.items
          x.witnesses.items y.witnesses.items f.top (rw base top) f.few g.few,
    ))
    (λ (few : length f.members ≤ max_colors).
    let mine = f.whole few in
    let yours = g.whole (omega (arith, few, ap length members)) in
    (rw (mine.0, yours.0, members) refl, rw (mine.1, yours.1, members) refl))
    (cases_lt max_colors (length f.members))
