-- Entries on top of others, each for a color that is far off.
use Rattle.std.proofs.Common.{◌≡◌, ℕ, ◌*◌, ◌<◌, ◌≤◌, List, [], ◌∷◌, ◌++◌, length, get_or, map, take}
use Rattle.std.proofs.{Common.{append-nil, ⊎_elim, arith}, Math.Nat.mul-le-mul_left}
use Rattle.std.proofs.{lemmas.Bool.cases_lt, lemmas.Bool.Decides.nat_tests}
use Rattle.std.proofs.lemmas.List.{take-append-le, take_at, get_or_append_left, get_or_at}
use Rattle.std.proofs.lemmas.List.{length_push, length-append, get_or-map, length-map}
use Rattle.std.proofs.lemmas.List.Elements.{All-push, All-nil}
use Rattle.std.specs.{Int.abs_diff, List.All}
use Rattle.sixel_base.specs.Color.{byte_of}
use Rattle.sixel_palette.specs.{Palette.{distance, nearest, square_gap}, Refined.AreOnTop}
use Rattle.sixel_palette.specs.Refined.{IsFarOff, percentage, register_color}
use Rattle.sixel_palette.specs.{inside.Codes.{color_of, IsListed}, inside.Counts.counted_error}
use Rattle.sixel_palette.proofs.{colors.Colors.IsColor, nearest_entries.Nearest.nearest-append}
use Rattle.sixel_palette.proofs.{nearest_entries.Nearest.nearest-le, refinement.Sums.sum_to-le}
use Rattle.sixel_palette.proofs.traversal.Order.{farthest_alike}

-- one more color that is far off
pub far_off_more : (Member : List ℕ → Type 0) (base tops : List (List ℕ)) (c : List ℕ)
    → ((i : ℕ) (d : List ℕ) → i < length tops
    → IsFarOff Member (base ++ map register_color (take i tops)) (get_or tops i d))
    → IsFarOff Member (base ++ map register_color tops) c
    → (i : ℕ) (d : List ℕ) → i < length (tops ++ c ∷ [])
    → IsFarOff Member (base ++ map register_color (take i (tops ++ c ∷ [])))
    (get_or (tops ++ c ∷ []) i d)
far_off_more h base tops c order far =
    grind (arith, nat_tests, take-append-le, get_or_append_left, length_push, take_at, get_or_at)

-- the same over a set of the same members
pub tops_alike : (M N : List ℕ → Type 0) → ((c : List ℕ) → M c → N c) → ((c : List ℕ) → N c → M c)
    → (max_colors : ℕ) (base entries witnesses : List (List ℕ))
    → AreOnTop M max_colors base entries witnesses → AreOnTop N max_colors base entries witnesses
tops_alike M N to from max_colors base entries witnesses h =
    grind (arith, nat_tests, farthest_alike)

-- there are no fewer entries
pub tops_longer : (Member : List ℕ → Type 0) (max_colors : ℕ)
    (base entries witnesses : List (List ℕ))
    → AreOnTop Member max_colors base entries witnesses → length base ≤ length entries
tops_longer e max_colors base entries witnesses h = grind (arith, nat_tests, length-append)

-- the error does not rise
pub tops_fall : (Member : List ℕ → Type 0) (max_colors : ℕ) (base entries witnesses : List (List ℕ))
    (codes counts : List ℕ) → AreOnTop Member max_colors base entries witnesses
    → counted_error entries codes counts ≤ counted_error base codes counts
tops_fall e max_colors base entries witnesses codes counts h =
    sum_to-le _ _ (length codes) (λ k l.
    mul-le-mul_left (get_or counts k 0) (rw h.whole (nearest-append base _ _)))

-- the witnesses are members
pub tops_occur : (Member : List ℕ → Type 0) (max_colors : ℕ)
    (base entries witnesses : List (List ℕ))
    → AreOnTop Member max_colors base entries witnesses → All Member witnesses
tops_occur Member max_colors base entries witnesses h =
    ⊎_elim (λ some.
    let last = h.some some in
    let all = λ (k : ℕ) (d : List ℕ) (l : k < length h.tops). (h.order k d l).farthest.member in
    rw last.2 (All-push Member h.tops last.0 all last.1.member))
    (λ none. rw (h.none (omega arith)) (All-nil Member)) (cases_lt 0 (length h.tops))

-- nothing on top
no_tops : (base tops : List (List ℕ)) → length tops ≡ 0 → base ++ map register_color tops ≡ base
no_tops base [] e = append-nil base
no_tops base (c ∷ tops) e = absurd (omega arith)

-- with an entry near to each member there are none on top
pub tops_none : (Member : List ℕ → Type 0) (max_colors : ℕ) (base entries witnesses : List (List ℕ))
    → ((c : List ℕ) → Member c → nearest base c ≤ 6)
    → AreOnTop Member max_colors base entries witnesses → entries ≡ base
tops_none e max_colors base entries witnesses near h = grind (arith, append-nil, no_tops)

-- ---- what percentages leave

-- a byte changes by at most one
rounded-square : (byte : ℕ) → byte < 256
    → abs_diff (byte_of (percentage byte)) byte * abs_diff (byte_of (percentage byte)) byte ≤ 1
rounded-square byte small = grind (arith, nat_tests)

-- so a register shows a color near to it
pub register-near : (c : List ℕ) → IsColor c → distance (register_color c) c ≤ 3
unfolding distance square_gap
register-near c is = grind (arith, nat_tests, rounded-square)

-- with a register color for each listed color these are near
pub near_listed : (codes : List ℕ) (c : List ℕ) → IsColor c → IsListed codes c
    → nearest (map (λ code. register_color (color_of code)) codes) c ≤ 6
near_listed codes c is m =
    let f : ℕ → List ℕ = λ code. register_color (color_of code) in
    let size = length-map codes f in
    let le = nearest-le (map f codes) c m.0 [] (omega (arith, m.1)) in
    let here = rw (get_or-map f codes m.0 0 [] m.1, m.2) at le in
    omega (arith, register-near c is)
