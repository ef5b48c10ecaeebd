-- What the run-length tokens of a row do to the place, the colors and the pixels.
use Rattle.std.specs.Prelude.{All, flat_map}
use Rattle.std.proofs.Common.{decimal, List, ap, arith, cond, get_or, length, length-append, subst}
use Rattle.std.proofs.{Common.{ℕ, ◌++◌, ◌+◌, ◌<◌, ◌∷◌, ◌≡◌, ◌≤◌, []}, lemmas.Bool.Decides.nat_tests}
use Rattle.std.proofs.lemmas.List.{length-replicate, get_or_append_left, get_or-append-add}
use Rattle.std.proofs.lemmas.List.{get_or-replicate}
use Rattle.sixel_base.specs.{Fields.field, History.History, Limits.repeat_limit, Place.across}
use Rattle.sixel_base.specs.{Place.{down, span}, Stroke.{Origin, color, pixel, ratio, registers}}
use Rattle.sixel_base.specs.{Stroke.selected, declared.settings.PixelAspectRatio.PixelAspectRatio}
use Rattle.sixel_encoder.specs.{Marks.is_lit, RunTokens.{Many, One, RunToken, row_tokens, sixels}}
use Rattle.sixel_encoder.proofs.{band_rows.EntryRows.is_lit-past, band_rows.ShortestRows.spells}
use Rattle.sixel_encoder.proofs.{round_trip.Digits.fields-numbers, round_trip.TextHistory.AreSound}
use Rattle.sixel_encoder.proofs.round_trip.TextHistory.{AreSound-row, IsSound}
use Rattle.sixel_encoder.proofs.round_trip.Tokens.{with_run_token, with_run_tokens}

-- a history has gone on by a row of sixels, drawn in the color that was selected
pub record Moved (row : List ℕ) (old new : History) : Type 0 where
  pub single : span new ≡ 1
  pub place : across new ≡ across old + length row
  pub level : down new ≡ down old
  pub named : (first : ℕ) → selected first new ≡ selected first old
  pub kept : (start : List (List ℕ)) → registers start new ≡ registers start old
  pub shape : (other : PixelAspectRatio) → ratio other new ≡ ratio other old
  pub shown : (origin : Origin) (column line : ℕ)
      → pixel origin new column line
      ≡ cond (is_lit row (across old) (down old) column line)
      (color origin old ++ 255 ∷ []) (pixel origin old column line)

-- the field of a repeat
pub field-decimal : (n : ℕ) → n ≤ repeat_limit → field (decimal n) 0 ≡ n
field-decimal n h = ap (λ ns. get_or ns 0 0) (fields-numbers n [] (omega arith) tt)

-- a run-length token
pub Moved-run_token : (token : RunToken) (h : History) → IsSound token → span h ≡ 1
    → Moved (sixels token) h (with_run_token token h)
unfolding sixels
Moved-run_token (One bits) h is one = grind (arith, nat_tests)
Moved-run_token (Many count bits) h is one =
    grind (arith, nat_tests, length-replicate, field-decimal, get_or-replicate, is_lit-past)

-- a row and another behind it
Moved-more : (a b : List ℕ) (old mid new : History) → Moved a old mid → Moved b mid new
    → Moved (a ++ b) old new
Moved-more a b old mid new first then =
    grind (arith, nat_tests, length-append, get_or_append_left, get_or-append-add, is_lit-past)

-- run-length tokens draw their sixels, one behind the other
Moved-run_tokens : (tokens : List RunToken) (h : History) → AreSound tokens → span h ≡ 1
    → Moved (flat_map sixels tokens) h (with_run_tokens tokens h)
Moved-run_tokens [] h are one = grind (arith, nat_tests)
Moved-run_tokens (token ∷ tokens) h are one =
    let first = Moved-run_token token h are.0 one in
    Moved-more _ _ h _ _ first (Moved-run_tokens tokens _ are.1 first.single)

-- a row of six bits per sixel, written in run-length tokens, is drawn
pub Moved-row : (row : List ℕ) (h : History) → All (λ bits. bits < 64) row → span h ≡ 1
    → Moved row h (with_run_tokens (row_tokens row) h)
Moved-row row h small one =
    subst (λ (r : List ℕ). Moved r h (with_run_tokens (row_tokens row) h))
    (spells row).joined (Moved-run_tokens (row_tokens row) h (AreSound-row row small) one)
