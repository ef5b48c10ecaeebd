-- That an image has one palette and a color one nearest entry.
use Rattle.std.{proofs.Common.{◌≡◌, ℕ, ◌<◌, List, length, get_or, arith}, specs.List.All}
use Rattle.std.{proofs.lemmas.List.{take_all, get_or_past}, proofs.lemmas.Bool.Decides.nat_tests}
use Rattle.sixel_palette.proofs.traversal.Choices.{IsColor-shown, three_from_shown}
use Rattle.sixel_palette.proofs.traversal.Order.{members_alike, order-take, order_alike}
use Rattle.sixel_palette.{proofs.traversal.Size.one_size, specs.Palette.{IsShown, HasSize}}
use Rattle.sixel_palette.specs.Palette.{IsPalette}

-- bytes are bytes also past the end
pub byte-get_or : (p : List ℕ) → All (λ b. b < 256) p → (k : ℕ) → get_or p k 0 < 256
byte-get_or p bytes k = grind (arith, nat_tests, get_or_past)

-- images that show the same colors have one palette
pub palette_same : (p q : List ℕ) (max_colors : ℕ) (xs ys : List (List ℕ)) → All (λ b. b < 256) p
    → ((c : List ℕ) → IsShown p c → IsShown q c) → ((c : List ℕ) → IsShown q c → IsShown p c)
    → IsPalette p max_colors xs → IsPalette q max_colors ys → xs ≡ ys
palette_same p q max_colors xs ys bytes to from f g =
    let members = members_alike (IsShown q) (IsShown p) from to g.size.1.0 g.size.1.1 in
    let size =
    one_size (IsShown p) (three_from_shown p) _ _ f.size.1 (g.size.1.0, members, g.size.1.2) in
    let same : length xs ≡ length ys = omega (arith, f.size.2, g.size.2) in
    let fronts =
    order-take (IsShown p) (λ c. IsColor-shown p c (byte-get_or p bytes)) (λ es. es) xs ys f.order
    (order_alike _ _ from to ys g.order) (length xs) (omega arith) (omega arith) in
    grind (arith, nat_tests, take_all)

-- an image shows one number of colors
pub size_same : (p : List ℕ) (m n : ℕ) → HasSize (IsShown p) m → HasSize (IsShown p) n → m ≡ n
size_same p m n f g = one_size (IsShown p) (three_from_shown p) m n f g
