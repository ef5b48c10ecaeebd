-- A color's nearest entry, with no entry and with one more.
use Rattle.std.proofs.Common.{◌≡◌, ℕ, ◌+◌, ◌<◌, ◌≤◌, List, [], ◌∷◌, ◌++◌, length, get_or, arith}
use Rattle.std.proofs.{lemmas.Bool.Decides.nat_tests, lemmas.List.{get_or_append_left, get_or_at}}
use Rattle.std.proofs.lemmas.List.{get_or_push, length_push}
use Rattle.sixel_palette.specs.declared.palette.nearest_entry.NearestEntry.{NearestEntry}
use Rattle.sixel_palette.specs.{Palette.{distance, no_entry}, inside.Codes.color_of}
use Rattle.sixel_palette.specs.inside.Nearest.{IsNearestEntry, AreNearest, nearest_at}
use Rattle.sixel_palette.proofs.nearest_entries.Nearest.{nearest-nil, nearest-push, nearest-le}

-- a nearer entry replaces it
pub near_taken : (entries : List (List ℕ)) (p c : List ℕ) (squared index : ℕ) (near : NearestEntry)
    → squared < near.squared → length entries ≡ index → distance p c ≡ squared
    → IsNearestEntry entries c near
    → IsNearestEntry (entries ++ p ∷ []) c (record { squared = squared; index = index })
near_taken entries p c squared index near less at same h =
    grind (arith, nat_tests, nearest-push, length_push, get_or_at, get_or_append_left, nearest-le)

-- an entry that is no nearer leaves it
pub near_kept : (entries : List (List ℕ)) (p c : List ℕ) (near : NearestEntry)
    → near.squared ≤ distance p c
    → IsNearestEntry entries c near → IsNearestEntry (entries ++ p ∷ []) c near
near_kept entries p c near more h = grind (arith, nearest-push, length_push, get_or_append_left)

-- with no entry
pub near_none : (c : List ℕ) → IsNearestEntry [] c (record { squared = no_entry; index = 0 })
near_none c = grind (arith, nat_tests, nearest-nil)

-- with no entry, for each color
pub nearest_none : (codes squares indices : List ℕ)
    → ((k : ℕ) → k < length codes → get_or squares k 0 ≡ no_entry)
    → ((k : ℕ) → k < length codes → get_or indices k 0 ≡ 0) → AreNearest [] codes squares indices
nearest_none codes squares indices far first k l = grind (arith, nat_tests, near_none)

-- the nearest entries so far and that of one more color
pub near_pushed : (entries : List (List ℕ)) (codes squares indices : List ℕ) (n : ℕ)
    (near : NearestEntry)
    → length squares ≡ n → length indices ≡ n
    → ((k : ℕ) → k < n
    → IsNearestEntry entries (color_of (get_or codes k 0)) (nearest_at squares indices k))
    → IsNearestEntry entries (color_of (get_or codes n 0)) near → (k : ℕ) → k < n + 1
    → IsNearestEntry entries (color_of (get_or codes k 0))
    (nearest_at (squares ++ near.squared ∷ []) (indices ++ near.index ∷ []) k)
near_pushed entries codes squares indices n near same also before here k l =
    grind (arith, nat_tests, get_or_append_left, get_or_push)
