-- Final rows stay: no token that follows draws above the band of the next sixel.
use Rattle.std.proofs.Common.{◌≡◌, ℕ, ◌<◌, ◌≤◌, true, false, cond, List, [], ◌∷◌, ◌++◌, refl, arith}
use Rattle.std.proofs.{Common.{Option, Some, None}, lemmas.Bool.Decides.nat_tests}
use Rattle.std.specs.Prelude.{fold}
use Rattle.sixel_base.specs.{Bytes.{front, first_terminator}, Clip.clipped_pixel, Dcs.Stage}
use Rattle.sixel_base.specs.{Dcs.{Heading, Failing, Reading, stage}, Lenient.{effective, without}}
use Rattle.sixel_base.specs.{Limits.Limit, History.{Token, History, begun, longer, goes_on, read}}
use Rattle.sixel_base.specs.{History.history_of, Payload.{closed, settled_tokens, tokens}}
use Rattle.sixel_base.specs.{Place.{down, height}, Settings.Settings, Stroke.{Origin, pixel}}
use Rattle.sixel_decoder.specs.FinalRows.{payload_final_rows, stage_final_rows, dcs_final_rows}
use Rattle.sixel_decoder.proofs.{chunks.Joined.settled_open, chunks.Reads.closed-longer}
use Rattle.sixel_decoder.proofs.dcs_sequences.Terminators.{stage_reading}
use Rattle.sixel_decoder.proofs.images.Finality.{history_more, of_settled, settled_ended}
use Rattle.sixel_decoder.proofs.images.Finality.{front_ended}

-- A history continues another: its band is no higher, its picture no lower, and the rows above the
-- band of the other have the same pixels.
pub record Continues (older newer : History) : Type 0 where
  pub lower : down older ≤ down newer
  pub taller : height older ≤ height newer
  pub pixels : (origin : Origin) (column row : ℕ) → row < down older
      → pixel origin newer column row ≡ pixel origin older column row

-- one that is ignored
continues_without : (token : Token) (older newer : History) → Continues older newer
    → Continues older (without token newer)
continues_without token older newer is = grind (arith, nat_tests)

-- all tokens continue what the closed ones do
continues_whole : (limit : Limit) (older h : History)
    → Continues older (effective limit (closed h)) → Continues older (effective limit h)
continues_whole limit older h is = grind (arith, nat_tests)

-- the closed ones of a history with one more token
continues_closed : (limit : Limit) (token : Token) (older h : History)
    → Continues older (effective limit h) → Continues older (effective limit (closed (token ∷ h)))
continues_closed limit token older h is = grind (arith, continues_without)

continues_read : (limit : Limit) (older h : History) (byte : ℕ)
    → Continues older (effective limit (closed h))
    → Continues older (effective limit (closed (read h byte)))
continues_read limit older h byte is =
    (elim (goes_on h byte) as
    (λ g. goes_on h byte ≡ g
    → Continues older (effective limit (closed (cond g (longer h byte) (begun byte ∷ h))))) [
      | true ↦ λ goes. rw (closed-longer h byte goes) is
      | false ↦ λ _. continues_closed limit (begun byte) older h (continues_whole limit older h is)
    ]) refl

continues_fold : (limit : Limit) (older h : History) (bytes : List ℕ)
    → Continues older (effective limit (closed h))
    → Continues older (effective limit (closed (fold read h bytes)))
continues_fold limit older h [] is = is
continues_fold limit older h (byte ∷ bytes) is =
    continues_fold limit older (read h byte) bytes (continues_read limit older h byte is)

continues_self : (h : History) → Continues h h
continues_self h = grind (arith, nat_tests)

-- the tokens of a payload so far, and those once more bytes came: settled or all
record GoesOn (limit : Limit) (bytes more : List ℕ) : Type 0 where
  some : Continues (settled_tokens limit bytes) (settled_tokens limit (bytes ++ more))
  all : Continues (settled_tokens limit bytes) (tokens limit (bytes ++ more))

goes_on_by : (limit : Limit) (bytes more : List ℕ) (o : Option ℕ) → first_terminator bytes ≡ o
    → GoesOn limit bytes more
goes_on_by limit bytes more None none =
    let h : History = history_of (front bytes) in
    let older : History = settled_tokens limit bytes in
    let next : History = history_of (front (bytes ++ more)) in
    let some : Continues older (effective limit (closed next)) =
    rw (settled_open bytes none, history_more bytes more none)
    (continues_fold limit (effective limit (closed h)) h (front more) (continues_self _)) in
    let all = continues_whole limit older next some in
    let settled = of_settled (λ w. Continues older (effective limit w)) (bytes ++ more) all some in
    record { some = settled; all = all }
goes_on_by limit bytes more (Some t) some =
    grind (arith, settled_ended, continues_self, front_ended)

goes_on_more : (limit : Limit) (bytes more : List ℕ) → GoesOn limit bytes more
goes_on_more limit bytes more = goes_on_by limit bytes more (first_terminator bytes) refl

-- ---- a payload

-- a picture shows the settled tokens
pub pixel_settled : (origin : Origin) (bytes : List ℕ) (column row : ℕ)
    → clipped_pixel origin (settled_tokens origin.pixel_limit bytes) column row
    ≡ clipped_pixel origin (tokens origin.pixel_limit bytes) column row
pixel_settled origin bytes column row = grind (arith, nat_tests)

-- final rows never become fewer
pub final_rows_stay : (limit : Limit) (bytes more : List ℕ)
    → payload_final_rows limit bytes ≤ payload_final_rows limit (bytes ++ more)
final_rows_stay limit bytes more = grind (arith, nat_tests, goes_on_more)

-- they have the same pixels, whatever bytes follow
pub final_pixels_stay : (origin : Origin) (bytes more : List ℕ) (column row : ℕ)
    → row < payload_final_rows origin.pixel_limit bytes
    → clipped_pixel origin (tokens origin.pixel_limit (bytes ++ more)) column row
    ≡ clipped_pixel origin (tokens origin.pixel_limit bytes) column row
final_pixels_stay origin bytes more column row final =
    let all = (goes_on_more origin.pixel_limit bytes more).all.pixels origin column row in
    grind (arith, all, pixel_settled)

-- ---- a DCS sequence

rows_in : (limit : Limit) (bytes more : List ℕ) (w : Stage) → stage bytes ≡ w
    → stage_final_rows limit w ≤ dcs_final_rows limit (bytes ++ more)
rows_in limit bytes more Heading is = omega arith
rows_in limit bytes more (Failing f) is = omega arith
rows_in limit bytes more (Reading s payload) is =
    rw (stage_reading bytes more s payload is) (final_rows_stay limit payload more)

pub dcs_final_rows_stay : (limit : Limit) (bytes more : List ℕ)
    → dcs_final_rows limit bytes ≤ dcs_final_rows limit (bytes ++ more)
dcs_final_rows_stay limit bytes more = rows_in limit bytes more (stage bytes) refl

-- where there are final rows, the payload has begun
pub record HasBegun (bytes : List ℕ) : Type 0 where
  pub settings : Settings
  pub payload : List ℕ
  pub reading : stage bytes ≡ Reading settings payload

begun_in : (limit : Limit) (bytes : List ℕ) (w : Stage) → stage bytes ≡ w
    → 0 < stage_final_rows limit w → HasBegun bytes
begun_in limit bytes w is some = grind arith

pub has_begun : (limit : Limit) (bytes : List ℕ) → 0 < dcs_final_rows limit bytes → HasBegun bytes
has_begun limit bytes some = begun_in limit bytes (stage bytes) refl some
