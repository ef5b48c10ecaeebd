-- One pixel more in the segments of a band, and the last segment of each entry.
use Rattle.std.proofs.Common.{None, Some, nat_lt, Bool, List, arith, false, inl, inr, length, refl}
use Rattle.std.proofs.Common.{set, true, ℕ, ◌++◌, ◌+◌, ◌<◌, ◌∷◌, ◌≡◌, ◌≤◌, length-append, []}
use Rattle.std.specs.Prelude.{Option, slice_index_or, ◌&&◌, ◌==◌}
use Rattle.std.proofs.lemmas.{Bool.cases_eq, Bool.Decides.nat_tests, Grind.get_or-set_at}
use Rattle.std.proofs.lemmas.List.{get_or-set_other, get_or_append_left, get_or_push, length-set}
use Rattle.sixel_encoder.specs.declared.segments.Segment.{Segment}
use Rattle.sixel_encoder.specs.inside.Compact.{nth, AreLast}

-- ---- the segment that a pixel joins

-- whether a pixel of an entry in this column joins a segment
abbrev pub is_near : ℕ → ℕ → ℕ → Segment → Bool
is_near gap column entry segment = segment.entry == entry && nat_lt column (segment.end + gap)

-- a segment up to this column
abbrev pub grown : ℕ → Segment → Segment
grown column segment = record { entry = segment.entry; first = segment.first; end = column + 1 }

-- a segment of the entry that has not ended a gap before is near
pub near-own : (gap column entry : ℕ) (segment : Segment) → segment.entry ≡ entry
    → column < segment.end + gap → is_near gap column entry segment ≡ true
near-own gap column entry segment same near = grind (arith, nat_tests)

-- two indices that are the last of an entry are one
pub some-same : (a b : ℕ) → Some a ≡ Some b → a ≡ b
some-same a b h = cc

-- no segment at all
pub AreLast-none : (last : List (Option ℕ)) (gap column : ℕ)
    → ((entry : ℕ) → slice_index_or last entry None ≡ None) → AreLast [] last gap column
AreLast-none last gap column none = grind (arith, nat_tests)

module _ (segments : List Segment) (last : List (Option ℕ)) (gap column : ℕ)
    (are : AreLast segments last gap column) where
  -- an entry without a last segment has none that is near
  pub none-near : (entry j : ℕ) → slice_index_or last entry None ≡ None → j < length segments
      → is_near gap column entry (nth segments j) ≡ false
  none-near entry j is l = grind (arith, nat_tests)

  -- an entry's last segment that has ended a gap before leaves none near
  pub last-far : (entry k j : ℕ) → slice_index_or last entry None ≡ Some k
      → (nth segments k).end + gap ≤ column → j < length segments
      → is_near gap column entry (nth segments j) ≡ false
  last-far entry k j is far l = grind (arith, nat_tests, some-same)

  -- ---- the last segments

  -- a later column
  pub AreLast-later : (later : ℕ) → column ≤ later → AreLast segments last gap later
  AreLast-later later l = grind (arith, nat_tests)

  -- an entry's last segment grows
  pub AreLast-near : (entry k : ℕ) (near : Segment) → slice_index_or last entry None ≡ Some k
      → nth segments k ≡ near → AreLast (set segments k (grown column near)) last gap column
  AreLast-near entry k near is at =
      record {
        known = λ e j h.
            let was = are.known e j h in
            grind (arith, nat_tests, length-set, get_or-set_at, get_or-set_other);
        closed = λ j l. grind (arith, nat_tests, length-set, get_or-set_at, get_or-set_other);
        ended = λ j l. grind (arith, nat_tests, length-set, get_or-set_at, get_or-set_other);
      }

-- an entry begins a segment
pub AreLast-new : (segments : List Segment) (last : List (Option ℕ)) (gap column entry : ℕ)
    (new : Segment) → new.entry ≡ entry → new.end ≤ column + 1 → AreLast segments last gap column
    → entry < length last
    → ((j : ℕ) → j < length segments → is_near gap column entry (nth segments j) ≡ false)
    → AreLast (segments ++ new ∷ []) (set last entry (Some (length segments))) gap column
AreLast-new segments last gap column entry new own short are inside none =
    let blank : Segment = record { entry = 0; first = 0; end = 0 } in
    let size = length-append segments (new ∷ []) in
    let end = get_or_push segments new blank (length segments) refl in
    record {
      known = λ e j h. elim (cases_eq e entry) [
        | inl same ↦ grind (arith, nat_tests, some-same, get_or-set_at)
        | inr apart ↦ grind (arith, nat_tests, get_or_append_left, get_or-set_other, are.known e j)
      ];
      closed = λ j l. elim (cases_eq j (length segments)) [
        | inl same ↦ grind (arith, nat_tests, get_or-set_at)
        | inr apart ↦ grind (arith, nat_tests, get_or_append_left, get_or-set_other)
      ];
      ended = λ j l. grind (arith, nat_tests, get_or_append_left);
    }
