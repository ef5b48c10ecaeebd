-- Lanes that differ from those of the column before: the rows of their entries change there.
use Rattle.std.proofs.Common.{◌≢◌, arith, length, true, ℕ, ◌*◌, ◌+◌, ◌-◌, ◌<◌, ◌≡◌, inl, inr}
use Rattle.std.proofs.{lemmas.Bool.cases_Bool, lemmas.Bool.Decides.nat_tests}
use Rattle.sixel_encoder.specs.{declared.band_entries.BandEntries.BandEntries, Text.entry_at}
use Rattle.sixel_encoder.specs.{Text.{has_dot, is_entry, row_of, sixel_of}, inside.Bound.IsChange}
use Rattle.sixel_encoder.specs.{inside.Indexed.drawing_of, inside.Compact.{AreLanes, lane_of}}
use Rattle.sixel_encoder.proofs.{MaskBits.is_set-mask, band_rows.ColumnLanes.opaque-lane}
use Rattle.sixel_encoder.proofs.{band_rows.EntryRows.no_dot-own, band_rows.Masks.hits-past}

-- what a pixel shows of the row of its entry, if the pixel in another column has another lane
record IsOther (entries : BandEntries) (here there lane : ℕ) : Type 0 where
  known : lane < length entries.image.now.colors.now
  other : sixel_of (drawing_of entries.image.now) entries.band lane here
      ≢ sixel_of (drawing_of entries.image.now) entries.band lane there
  dotted : has_dot (row_of (drawing_of entries.image.now) entries.band lane) ≡ true

other-lane : (entries : BandEntries) (here there bit lane next : ℕ) → AreLanes entries
    → here < entries.image.now.width → bit < 6
    → lane ≡ lane_of (entry_at (drawing_of entries.image.now) here (6 * entries.band + bit))
    → next ≡ lane_of (entry_at (drawing_of entries.image.now) there (6 * entries.band + bit))
    → lane ≢ next → lane ≢ 256 → IsOther entries here there lane
other-lane entries here there bit lane next are lh lb is at apart some =
    let drawing = drawing_of entries.image.now in
    let band = entries.band in
    let own = (opaque-lane entries here bit lane are lh is some).0 in
    let set = λ (column : ℕ).
    is_set-mask (λ k. is_entry lane (entry_at drawing column (6 * band + k))) bit lb in
    record {
      known = grind (arith, nat_tests, hits-past);
      other = λ e. grind (arith, nat_tests, set here, set there);
      dotted = elim (cases_Bool (has_dot (row_of drawing band lane))) [
        | inl is ↦ is
        | inr none ↦
            absurd
            (no_dot-own drawing band lane here (6 * band + bit) lh
            record { since = omega arith; before = omega arith } none own)
      ];
    }

-- the entry on the left ends its run
pub change-left : (entries : BandEntries) (column bit lane next : ℕ) → AreLanes entries
    → column < entries.image.now.width → bit < 6
    → lane ≡ lane_of (entry_at (drawing_of entries.image.now) (column - 1) (6 * entries.band + bit))
    → next ≡ lane_of (entry_at (drawing_of entries.image.now) column (6 * entries.band + bit))
    → lane ≢ next → lane ≢ 256
    → IsChange (drawing_of entries.image.now) entries.band lane column
change-left entries column bit lane next are l lb is at apart some =
    let found = other-lane entries (column - 1) column bit lane next are (omega arith) lb is at
    apart some in
    grind (arith, nat_tests)

-- and the one on the right ends a blank
pub change-right : (entries : BandEntries) (column bit lane next : ℕ) → AreLanes entries
    → column < entries.image.now.width → bit < 6
    → lane ≡ lane_of (entry_at (drawing_of entries.image.now) column (6 * entries.band + bit))
    → next ≡ lane_of (entry_at (drawing_of entries.image.now) (column - 1) (6 * entries.band + bit))
    → lane ≢ next → lane ≢ 256
    → IsChange (drawing_of entries.image.now) entries.band lane column
change-right entries column bit lane next are l lb is at apart some =
    let found = other-lane entries column (column - 1) bit lane next are l lb is at apart some in
    record { inside = l; known = found.known; other = found.other; dotted = found.dotted }
